use Rattle.std.proofs.Common.{◌≡◌, ◌∙◌, sym, ap, flat_map, Some, None, option_map}
use Rattle.class_scopes.specs.N1.{unknown_types}
use Rattle.class_scopes.specs.N2.{repeated_elements, repeated_classes}
use Rattle.class_scopes.specs.Places.{least, lesser}
use Rattle.class_scopes.specs.Reached.{chosen_by}
use Rattle.class_scopes.proofs.Firsts.{chosen_within, first_absent, first_one, none_one, first_two, none_two}
use Rattle.class_scopes.proofs.name_rules.names.Goals as goal

pub returns-in-None : goal.returns-in-None
returns-in-None c =
    let none : chosen_by c.in_ok-file.field-0.file.text.now c.in_ok-file.field-0.file.classes.now (option_map (λ name. name.now) c.args.class) ≡ None = sym c.chosen.ensures ∙ c.in-None.is in
    rw (← c.in_ok-file.ensures.text, ← c.in_ok-file.ensures.classes) (first_absent c.in_ok-file.field-0.file.text.now c.in_ok-file.field-0.file.classes.now _ none)

pub reached-requires : goal.reached-requires
reached-requires c =
    chosen_within c.in_ok-file.field-0.file.text.now c.in_ok-file.field-0.file.classes.now (option_map (λ name. name.now) c.args.class) c.in-Some.root (sym c.chosen.ensures ∙ c.in-Some.is)

pub returns-in-Some-all_unknown_types : goal.returns-in-Some-all_unknown_types
returns-in-Some-all_unknown_types c =
    let text = c.in_ok-file.field-0.file.text.now in
    let classes = c.in_ok-file.field-0.file.classes.now in
    let chosen : chosen_by text classes (option_map (λ name. name.now) c.args.class) ≡ Some c.in-Some.root = sym c.chosen.ensures ∙ c.in-Some.is in
    let is : least (flat_map (unknown_types text classes) c.in_ok-reached.reached.items) ≡ Some c.in-Some-all_unknown_types.at = ap (λ s. least (flat_map (unknown_types text classes) s)) (sym c.as_slice.ensures.value) ∙ sym c.all_unknown_types.ensures ∙ c.in-Some-all_unknown_types.is in
    rw (← c.in_ok-file.ensures.text, ← c.in_ok-file.ensures.classes)
    (first_one text classes _ c.in-Some.root c.in_ok-reached.reached.items chosen c.in_ok-reached.ensures c.in-Some-all_unknown_types.at is)

pub returns-in-Some-lesser : goal.returns-in-Some-lesser
returns-in-Some-lesser c =
    let text = c.in_ok-file.field-0.file.text.now in
    let classes = c.in_ok-file.field-0.file.classes.now in
    let items = c.in_ok-reached.reached.items in
    let chosen : chosen_by text classes (option_map (λ name. name.now) c.args.class) ≡ Some c.in-Some.root = sym c.chosen.ensures ∙ c.in-Some.is in
    let none : least (flat_map (unknown_types text classes) items) ≡ None =
    ap (λ s. least (flat_map (unknown_types text classes) s)) (sym c.as_slice.ensures.value) ∙ sym c.all_unknown_types.ensures ∙ c.in-None-all_unknown_types.is in
    let first : c.in_ok-file.field-0.repeated ≡ least (repeated_classes text classes) =
    rw (c.in_ok-file.ensures.text, c.in_ok-file.ensures.classes) c.in_ok-file.ensures.repeated in
    let others : c.in_ok-second.second ≡ least (flat_map (repeated_elements text classes) items) =
    c.in_ok-second.ensures ∙ ap (λ s. least (flat_map (repeated_elements text classes) s)) c.as_slice-2.ensures.value in
    let is : lesser c.in_ok-file.field-0.repeated c.in_ok-second.second ≡ Some c.in-Some-lesser.at = sym c.lesser.ensures ∙ c.in-Some-lesser.is in
    rw (← c.in_ok-file.ensures.text, ← c.in_ok-file.ensures.classes) (
      none_one text classes _ c.in-Some.root items chosen c.in_ok-reached.ensures none,
      first_two text classes _ c.in-Some.root items chosen c.in_ok-reached.ensures c.in_ok-file.field-0.repeated c.in_ok-second.second first others c.in-Some-lesser.at is,
    )

pub returns : goal.returns
returns c =
    let text = c.in_ok-file.field-0.file.text.now in
    let classes = c.in_ok-file.field-0.file.classes.now in
    let items = c.in_ok-reached.reached.items in
    let chosen : chosen_by text classes (option_map (λ name. name.now) c.args.class) ≡ Some c.in-Some.root = sym c.chosen.ensures ∙ c.in-Some.is in
    let none : least (flat_map (unknown_types text classes) items) ≡ None =
    ap (λ s. least (flat_map (unknown_types text classes) s)) (sym c.as_slice.ensures.value) ∙ sym c.all_unknown_types.ensures ∙ c.in-None-all_unknown_types.is in
    let first : c.in_ok-file.field-0.repeated ≡ least (repeated_classes text classes) =
    rw (c.in_ok-file.ensures.text, c.in_ok-file.ensures.classes) c.in_ok-file.ensures.repeated in
    let others : c.in_ok-second.second ≡ least (flat_map (repeated_elements text classes) items) =
    c.in_ok-second.ensures ∙ ap (λ s. least (flat_map (repeated_elements text classes) s)) c.as_slice-2.ensures.value in
    let is : lesser c.in_ok-file.field-0.repeated c.in_ok-second.second ≡ None = sym c.lesser.ensures ∙ c.in-None-lesser.is in
    record {
      text_is = c.in_ok-file.ensures.text;
      classes_are = c.in_ok-file.ensures.classes;
      chosen = rw (← c.in_ok-file.ensures.text, ← c.in_ok-file.ensures.classes) chosen;
      reached = rw (← c.in_ok-file.ensures.text, ← c.in_ok-file.ensures.classes) c.in_ok-reached.ensures;
      types = rw (← c.in_ok-file.ensures.text, ← c.in_ok-file.ensures.classes) (none_one text classes _ c.in-Some.root items chosen c.in_ok-reached.ensures none);
      names = rw (← c.in_ok-file.ensures.text, ← c.in_ok-file.ensures.classes)
          (none_two text classes _ c.in-Some.root items chosen c.in_ok-reached.ensures c.in_ok-file.field-0.repeated c.in_ok-second.second first others is);
    }
