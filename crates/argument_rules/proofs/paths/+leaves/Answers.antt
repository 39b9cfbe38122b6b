use Rattle.std.proofs.Common.{◌≡◌, ◌∙◌, ap, ap₂, sym, [], ◌∷◌, ◌++◌}
use Rattle.mo_parser.specs.declared.tree.Arg.TheViews.{out-Arg}
use Rattle.class_scopes.specs.Spelled.{idents}
use Rattle.class_scopes.specs.Places.{Entry}
use Rattle.argument_rules.specs.Paths.{along, Adds, leaves_of, leaves_in}
use Rattle.argument_rules.proofs.Leaves.{path_is, alone, nested, adds_on, adds_one, adds_as}
use Rattle.argument_rules.proofs.paths.+leaves.Goals as goal

pub leaves_of-returns-in_ok-push : goal.leaves_of-returns-in_ok-push
leaves_of-returns-in_ok-push t c =
    let text = c.args.text.now in
    let arg = c.args.arg.now in
    let prefix = c.args.prefix.now in
    let path = c.in_ok-path.path.items in
    let old = c.args.found.now.items in
    let mid = c.leaves_in.new.found.items in
    let new = c.push.new.self.items in
    let is : path ≡ along prefix (idents text (out-Arg arg).name) = path_is text prefix path c.as_slice.result.now (out-Arg arg).name c.in_ok-path.ensures c.as_slice.ensures in
    let inner : Adds old (leaves_in text path (out-Arg arg).args) mid =
    adds_as old mid _ (leaves_in text path (out-Arg arg).args) (ap₂ (leaves_in text) (sym c.as_slice-2.ensures.value) (sym c.as_slice-3.ensures)) c.in_ok-leaves_in.ensures in
    let own : Entry = record { key = path; place = c.place_of.result } in
    let last : Adds mid (own ∷ []) new = adds_one mid new _ c.in_ok-push.ensures.items in
    let whole = adds_on old mid new (leaves_in text path (out-Arg arg).args) (own ∷ []) inner last in
    adds_as old new (leaves_in text path (out-Arg arg).args ++ own ∷ []) (leaves_of text arg prefix)
    (alone text arg prefix path is (sym c.counts.ensures ∙ c.if-counts.true)
    ∙ ap (λ p. leaves_in text path (out-Arg arg).args ++ (record { key = path; place = p }) ∷ []) (sym c.place_of.ensures)) whole

pub leaves_of-returns-else-counts : goal.leaves_of-returns-else-counts
leaves_of-returns-else-counts t c =
    let text = c.args.text.now in
    let arg = c.args.arg.now in
    let prefix = c.args.prefix.now in
    let path = c.in_ok-path.path.items in
    let is : path ≡ along prefix (idents text (out-Arg arg).name) = path_is text prefix path c.as_slice.result.now (out-Arg arg).name c.in_ok-path.ensures c.as_slice.ensures in
    adds_as c.args.found.now.items c.leaves_in.new.found.items _ (leaves_of text arg prefix)
    (nested text arg prefix path is (sym c.counts.ensures ∙ c.if-counts.false) ∙ ap₂ (leaves_in text) (sym c.as_slice-2.ensures.value) (sym c.as_slice-3.ensures)) c.in_ok-leaves_in.ensures
