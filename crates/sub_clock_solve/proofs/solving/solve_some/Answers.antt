use Rattle.std.proofs.Common.{rules, ◌≡◌, ◌<◌, ◌^◌, sym, subst, length, All}
use Rattle.clock_terms.specs.Position.{IsFine}
use Rattle.clock_terms.specs.Source.{sources_of}
use Rattle.sub_clock_solve.specs.private.Given.{AreSources}
use Rattle.sub_clock_solve.proofs.Giving.{given_nodes, all_fine, sources_proper}
use Rattle.sub_clock_solve.proofs.solving.solve_some.Goals as goal

pub spread_all-requires-clause-nodes : goal.spread_all-requires-clause-nodes
spread_all-requires-clause-nodes c =
    let items : c.deref.result.now ≡ c.in_ok-givens.givens.items = search rules in
    let class_of : c.as_slice-class_of.result.now ≡ c.args.classes.now.class_of = search rules in
    let constructors : c.as_slice.result.now ≡ c.args.terms.now.constructors = search rules in
    let are : AreSources c.in_ok-givens.givens.items (sources_of c.args.terms.now.constructors) = subst (λ l. AreSources c.in_ok-givens.givens.items (sources_of l)) constructors (c.in_ok-givens.ensures {u = tt}) in
    subst (λ g. All (λ given. given.node < length c.as_slice-class_of.result.now) g) (sym items)
    (subst (λ l. All (λ given. given.node < length l) c.in_ok-givens.givens.items) (sym class_of)
    (given_nodes (λ n. n < length c.args.classes.now.class_of) c.args.terms.now.constructors c.in_ok-givens.givens.items c.requires.nodes are))

pub spread_all-requires-clause-fine : goal.spread_all-requires-clause-fine
spread_all-requires-clause-fine c =
    let items : c.deref.result.now ≡ c.in_ok-givens.givens.items = search rules in
    subst (λ g. All (λ given. IsFine (2 ^ 40) given.grid) g) (sym items) (all_fine c.in_ok-givens.givens.items _ (c.in_ok-givens.ensures {u = tt}))

pub judged-requires-clause-spread : goal.judged-requires-clause-spread
judged-requires-clause-spread c =
    let items : c.deref.result.now ≡ c.in_ok-givens.givens.items = search rules in
    let class_of : c.as_slice-class_of.result.now ≡ c.args.classes.now.class_of = search rules in
    let clocked : c.as_slice-2.result.now ≡ c.args.classes.now.clocked = search rules in
    let relations : c.as_slice-relations.result.now ≡ c.args.terms.now.relations = search rules in
    let constructors : c.as_slice.result.now ≡ c.args.terms.now.constructors = search rules in
    let sources = sources_of c.args.terms.now.constructors in
    let proper = sources_proper 0 c.args.terms.now.constructors c.requires.clocks in
    let are : AreSources c.deref.result.now (sources_of c.args.terms.now.constructors) =
    subst (λ g. AreSources g (sources_of c.args.terms.now.constructors)) (sym items) (subst (λ l. AreSources c.in_ok-givens.givens.items (sources_of l)) constructors (c.in_ok-givens.ensures {u = tt})) in
    record {
      same_length = search rules;
      fine = c.in_ok-all.ensures.fine;
      proper = proper;
      fine_start = let h = c.in_ok-all.ensures.start sources are proper in rw (class_of, clocked) at h;
      settles = let h = c.in_ok-all.ensures.settles sources are proper in rw (class_of, clocked, relations) at h;
    }
