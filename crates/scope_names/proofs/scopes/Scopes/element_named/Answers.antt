use Rattle.std.proofs.Common.{rules, ◌≡◌, ◌∙◌, sym, ap, refl, ◌<◌, ◌≤◌, length, Some, None, slice_get}
use Rattle.std.proofs.lemmas.Bool.{ltb-true}
use Rattle.std.proofs.lemmas.Option.{slice_get_read, slice_get_past}
use Rattle.class_scopes.specs.Tables.{number_of}
use Rattle.scope_names.proofs.Scoped.{named_none, named_some}
use Rattle.scope_names.proofs.scopes.Scopes.element_named.Goals as goal

pub returns-in_default-number : goal.returns-in_default-number
returns-in_default-number c =
    let text = c.args.self.now.named.file.text.now in
    let classes = c.args.self.now.named.file.classes.now in
    let tables = c.deref.result.now in
    let table = c.in-Some.table.now in
    let within : c.args.class < length tables = ltb-true _ _ (sym c.in-Some.ensures.lookup.0) in
    let at : slice_get tables c.args.class ≡ Some table = slice_get_read tables (length tables) c.args.class table refl within c.in-Some.ensures.lookup.1 in
    let is = c.args.self.now.tabled.each c.args.class table (ap (λ ts. slice_get ts c.args.class) (sym c.deref.ensures.value) ∙ at) in
    let numbered : number_of table c.args.name.now ≡ None = search rules in
    sym (named_none text classes c.args.class c.args.name.now table is numbered)

pub returns-then-number-elements : goal.returns-then-number-elements
returns-then-number-elements c =
    let text = c.args.self.now.named.file.text.now in
    let classes = c.args.self.now.named.file.classes.now in
    let tables = c.deref.result.now in
    let table = c.in-Some.table.now in
    let number = c.in-Some-number.number in
    let within : c.args.class < length tables = ltb-true _ _ (sym c.in-Some.ensures.lookup.0) in
    let at : slice_get tables c.args.class ≡ Some table = slice_get_read tables (length tables) c.args.class table refl within c.in-Some.ensures.lookup.1 in
    let is = c.args.self.now.tabled.each c.args.class table (ap (λ ts. slice_get ts c.args.class) (sym c.deref.ensures.value) ∙ at) in
    let numbered : number_of table c.args.name.now ≡ Some number = search rules in
    let elements = c.elements_of-elements.result.now in
    let inside : number < length elements = search rules in
    sym (slice_get_read elements (length elements) number c.index-elements-number.result refl inside c.index-elements-number.is)
    ∙ ap (λ es. slice_get es number) c.elements_of-elements.ensures ∙ sym (named_some text classes c.args.class c.args.name.now table is number numbered)

pub returns-else-number-elements : goal.returns-else-number-elements
returns-else-number-elements c =
    let text = c.args.self.now.named.file.text.now in
    let classes = c.args.self.now.named.file.classes.now in
    let tables = c.deref.result.now in
    let table = c.in-Some.table.now in
    let number = c.in-Some-number.number in
    let within : c.args.class < length tables = ltb-true _ _ (sym c.in-Some.ensures.lookup.0) in
    let at : slice_get tables c.args.class ≡ Some table = slice_get_read tables (length tables) c.args.class table refl within c.in-Some.ensures.lookup.1 in
    let is = c.args.self.now.tabled.each c.args.class table (ap (λ ts. slice_get ts c.args.class) (sym c.deref.ensures.value) ∙ at) in
    let numbered : number_of table c.args.name.now ≡ Some number = search rules in
    let elements = c.elements_of-elements.result.now in
    let past : length elements ≤ number = search rules in
    sym (slice_get_past elements number past)
    ∙ ap (λ es. slice_get es number) c.elements_of-elements.ensures ∙ sym (named_some text classes c.args.class c.args.name.now table is number numbered)
