use Rattle.std.proofs.Common.{rules, arith, ◌≡◌, ◌<◌, All, length, subst, sym}
use Rattle.clock_spread.specs.Found.{class_in}
use Rattle.clock_spread.specs.Queue.{IsNextTo}
use Rattle.clock_spread.proofs.Turning.{next_below, stands_next, lost_next, fewer_left, fewer_where}
use Rattle.clock_spread.proofs.turn.turn_of.Goals as goal

pub taken-requires-clause-next : goal.taken-requires-clause-next
taken-requires-clause-next c =
    let items : c.deref.result.now ≡ c.in_ok-next.next.items = search rules in
    let count : length c.args.found.now ≡ length c.args.lists.now = omega (arith, c.requires.lists) in
    subst (λ l. All (λ x. x < length c.args.lists.now) l) (sym items)
    (next_below c.args.class_of.now c.args.lists.now c.args.last.now c.args.clocked.now c.args.marks.now c.in_ok-next.next.items c.candidates.new.marks (length c.args.lists.now)
    c.in_ok-next.ensures c.requires.ends (subst (λ n. All (λ x. x < n) c.args.class_of.now) count c.requires.classes) c.requires.last)

pub commit-requires-clause-next : goal.commit-requires-clause-next
commit-requires-clause-next c =
    let items : c.deref-2.result.now ≡ c.in_ok-next.next.items = search rules in
    subst (λ l. All (λ x. x < length c.args.found.now) l) (sym items)
    (next_below c.args.class_of.now c.args.lists.now c.args.last.now c.args.clocked.now c.args.marks.now c.in_ok-next.next.items c.candidates.new.marks (length c.args.found.now)
    c.in_ok-next.ensures c.requires.ends c.requires.classes c.requires.last)

pub returns-clause-below : goal.returns-clause-below
returns-clause-below c =
    let count : length c.args.found.now ≡ length c.args.lists.now = omega (arith, c.requires.lists) in
    next_below c.args.class_of.now c.args.lists.now c.args.last.now c.args.clocked.now c.args.marks.now c.in_ok-next.next.items c.candidates.new.marks (length c.args.lists.now)
    c.in_ok-next.ensures c.requires.ends (subst (λ n. All (λ x. x < n) c.args.class_of.now) count c.requires.classes) c.requires.last

pub returns-clause-stands : goal.returns-clause-stands
returns-clause-stands c = λ relations held touching stands.
    let first : c.deref.result.now ≡ c.in_ok-next.next.items = search rules in
    let second : c.deref-2.result.now ≡ c.in_ok-next.next.items = search rules in
    let third : c.deref-3.result.now ≡ c.in_ok-news.news.items = search rules in
    let count : length c.args.found.now ≡ length c.args.lists.now = omega (arith, c.requires.lists) in
    let below = next_below c.args.class_of.now c.args.lists.now c.args.last.now c.args.clocked.now c.args.marks.now c.in_ok-next.next.items c.candidates.new.marks (length c.args.lists.now)
    c.in_ok-next.ensures c.requires.ends (subst (λ n. All (λ x. x < n) c.args.class_of.now) count c.requires.classes) c.requires.last in
    let takes = rw first at (c.in_ok-news.ensures.agrees held stands.agree) in
    let commits = rw (second, third) at c.commit.ensures.commits in
    stands_next c.args.class_of.now c.args.clocked.now relations c.args.lists.now held c.args.found.now c.commit.new.found c.in_ok-news.news.items c.args.marks.now c.candidates.new.marks c.args.last.now c.in_ok-next.next.items
    stands touching c.requires.last c.in_ok-next.ensures takes commits below

pub returns-clause-kept : goal.returns-clause-kept
returns-clause-kept c = let h = fewer_left (IsNextTo (class_in c.args.class_of.now) c.args.lists.now c.args.last.now) c.args.clocked.now c.args.marks.now c.in_ok-next.next.items c.candidates.new.marks c.in_ok-next.ensures in omega (arith, h)

pub returns-clause-fewer : goal.returns-clause-fewer
returns-clause-fewer c = λ some. fewer_where (IsNextTo (class_in c.args.class_of.now) c.args.lists.now c.args.last.now) c.args.clocked.now c.args.marks.now c.in_ok-next.next.items c.candidates.new.marks c.in_ok-next.ensures some

pub returns-clause-lost : goal.returns-clause-lost
returns-clause-lost c = λ relations held touching stands proper none.
    let first : c.deref.result.now ≡ c.in_ok-next.next.items = search rules in
    let second : c.deref-2.result.now ≡ c.in_ok-next.next.items = search rules in
    let third : c.deref-3.result.now ≡ c.in_ok-news.news.items = search rules in
    let count : length c.args.found.now ≡ length c.args.lists.now = omega (arith, c.requires.lists) in
    let below = next_below c.args.class_of.now c.args.lists.now c.args.last.now c.args.clocked.now c.args.marks.now c.in_ok-next.next.items c.candidates.new.marks (length c.args.lists.now)
    c.in_ok-next.ensures c.requires.ends (subst (λ n. All (λ x. x < n) c.args.class_of.now) count c.requires.classes) c.requires.last in
    let takes = rw first at (c.in_ok-news.ensures.agrees held stands.agree) in
    let exact = rw first at (c.in_ok-news.ensures.exact none held stands.agree) in
    let commits = rw (second, third) at c.commit.ensures.commits in
    lost_next c.args.class_of.now c.args.clocked.now relations c.args.lists.now held c.args.found.now c.commit.new.found c.in_ok-news.news.items c.args.marks.now c.candidates.new.marks c.args.last.now c.in_ok-next.next.items
    stands touching c.requires.last c.in_ok-next.ensures takes commits below proper none c.commit.ensures.fine exact
