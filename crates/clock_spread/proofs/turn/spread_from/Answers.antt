use Rattle.std.proofs.Common.{rules, ◌≡◌, ◌∙◌, length, subst, sym, suc, None}
use Rattle.clock_spread.specs.Turn.{Stands, said_by, after_more, AreLost, IsNextLost}
use Rattle.clock_spread.proofs.Turning.{settles}
use Rattle.clock_spread.proofs.Losing.{more_proper, first_more, none_more}
use Rattle.clock_spread.proofs.turn.spread_from.Goals as goal

pub rounds-preserved : goal.rounds-preserved
rounds-preserved c =
    let items : c.deref.result.now ≡ c.rounds.last.items = search rules in
    let next : c.deref-in-rounds.result.now ≡ c.in_ok-last.last.items = search rules in
    record {
      found = c.in_ok-last.ensures.length ∙ c.rounds.invariant.found;
      marks = c.in_ok-last.ensures.marks ∙ c.rounds.invariant.marks;
      fine = c.in_ok-last.ensures.fine;
      last = c.in_ok-last.ensures.below;
      stands = λ relations held touching start proper none.
          let (n, stands, first, kept) = c.rounds.invariant.stands relations held touching start proper none in
          let said = said_by c.args.class_of.now c.args.clocked.now relations in
          let before = after_more said held n in
          let at_last = subst (λ last. Stands c.args.class_of.now c.args.clocked.now relations c.args.lists.now before c.rounds.found c.rounds.marks last) (sym items) stands in
          let are : c.rounds.lost ≡ None → AreLost said before c.turn_of.new.found c.in_ok-last.last.items = λ e. c.in_ok-last.ensures.lost relations before touching at_last (more_proper said held proper n) (kept e) in
          let next_lost : IsNextLost c.rounds.lost c.turn_of.new.found c.in_ok-last.last.items c.first_lost-lost.result = subst (λ l. IsNextLost c.rounds.lost c.turn_of.new.found l c.first_lost-lost.result) next c.first_lost-lost.ensures in (
            suc n,
            c.in_ok-last.ensures.stands relations before touching at_last,
            first_more said held n c.rounds.lost c.first_lost-lost.result c.turn_of.new.found c.in_ok-last.last.items first are next_lost,
            none_more said held n c.rounds.lost c.first_lost-lost.result c.turn_of.new.found c.in_ok-last.last.items are next_lost,
          );
    }

pub returns-clause-settles : goal.returns-clause-settles
returns-clause-settles c = λ relations held touching start proper none.
    let empty : length c.rounds.last.items ≡ 0 = search rules in
    let (n, stands, first, kept) = c.rounds.invariant.stands relations held touching start proper none in
    settles c.args.class_of.now c.args.clocked.now relations c.args.lists.now held c.rounds.found c.rounds.marks c.rounds.last.items empty n stands c.rounds.lost first kept
