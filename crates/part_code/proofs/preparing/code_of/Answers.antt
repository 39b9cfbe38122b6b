use Rattle.std.proofs.Common.{rules, ◌≡◌, refl, ◌≤◌, ◌^◌, ap, subst, ◌∙◌, sym, [], length, vec_len, All, arith}
use Rattle.cell_keys.specs.Cells.{with_keys}
use Rattle.part_layout.specs.LayoutLaws.{AreLaidOutFor}
use Rattle.part_layout.specs.Reads.{keys_of_lines}
use Rattle.part_stretches.specs.Running.{IsRunWithin}
use Rattle.part_code.specs.private.Lines.{AreJoinedTo, ArePartLines, AreLandedTo, AreCodeLines}
use Rattle.part_code.specs.private.Refused.{IsRefusedRun}
use Rattle.part_code.specs.private.Stretching.{AreCodedTo}
use Rattle.part_code.proofs.Growing.{joined_lines}
use Rattle.part_code.proofs.Refusing.{due_err}
use Rattle.part_code.proofs.Whole.{laid, whole, asked, landings_are, stretches_are, too_many_keys, no_code}
use Rattle.part_code.proofs.preparing.code_of.Goals as goal

pub returns-clause-code : goal.returns-clause-code
returns-clause-code c =
    let lines : ArePartLines c.args.flat.now.equations c.args.entries.now (length c.args.entries.now) c.in_ok-lines.lines.items =
    joined_lines c.args.flat.now.equations c.args.entries.now c.in_ok-sides.sides.items (length c.args.entries.now) c.in_ok-lines.lines.items c.in_ok-sides.ensures.sides
    (subst (λ sides. AreJoinedTo c.args.entries.now sides (length c.args.entries.now) c.in_ok-lines.lines.items) c.deref.ensures.value c.in_ok-lines.ensures.lines) in
    let names : c.as_slice-names.result.now ≡ c.args.flat.now.names = c.as_slice-names.ensures in
    let keys : c.in_ok-keys.keys ≡ with_keys [] (keys_of_lines c.in_ok-lines.lines.items) = c.in_ok-keys.ensures.keys ∙ ap (λ ls. with_keys [] (keys_of_lines ls)) c.deref-2.ensures.value in
    let landed : AreLandedTo c.args.flat.now.names c.in_ok-keys.keys c.in_ok-lines.lines.items (length c.in_ok-lines.lines.items) c.in_ok-landings.landings.items =
    subst (λ ls. AreLandedTo c.args.flat.now.names c.in_ok-keys.keys ls (length ls) c.in_ok-landings.landings.items) c.deref-3.ensures.value
    (subst (λ ns. AreLandedTo ns c.in_ok-keys.keys c.deref-3.result.now (length c.deref-3.result.now) c.in_ok-landings.landings.items) names c.in_ok-landings.ensures.landings) in
    let given : AreCodeLines c.in_ok-keys.keys c.in_ok-lines.lines.items (length c.in_ok-lines.lines.items) c.in_ok-coded.coded.items =
    subst (λ ls. AreCodeLines c.in_ok-keys.keys ls (length ls) c.in_ok-coded.coded.items) c.deref-4.ensures.value c.in_ok-coded.ensures.lines in
    let made : AreCodedTo c.args.flat.now.names c.in_ok-keys.keys c.args.entries.now c.in_ok-coded.coded.items (length c.args.entries.now) c.in_ok-stretches.stretches.items =
    subst (λ ls. AreCodedTo c.args.flat.now.names c.in_ok-keys.keys c.args.entries.now ls (length c.args.entries.now) c.in_ok-stretches.stretches.items) c.deref-5.ensures.value
    (subst (λ ns. AreCodedTo ns c.in_ok-keys.keys c.args.entries.now c.deref-5.result.now (length c.args.entries.now) c.in_ok-stretches.stretches.items) names c.in_ok-stretches.ensures.stretches) in
    let count : vec_len c.in_ok-words.words ≡ c.room_for-count.result = search rules in
    record {
      stretches = stretches_are c.args.flat.now.equations c.args.flat.now.names c.args.entries.now c.in_ok-lines.lines.items c.in_ok-keys.keys lines keys c.in_ok-coded.coded.items given c.in_ok-stretches.stretches.items made;
      whole = whole c.args.flat.now.equations c.args.flat.now.names c.args.entries.now c.in_ok-lines.lines.items c.in_ok-keys.keys lines keys;
      asked = asked c.args.flat.now.equations c.args.flat.now.names c.args.entries.now c.in_ok-lines.lines.items c.in_ok-keys.keys lines keys;
      landings = landings_are c.args.flat.now.equations c.args.flat.now.names c.args.entries.now c.in_ok-lines.lines.items c.in_ok-keys.keys lines keys c.in_ok-landings.landings.items landed;
      room = let least = c.room_for-count.ensures.least in let size = c.len.ensures in omega (arith, least, size, count);
      within = subst (λ n. All (IsRunWithin n) c.in_ok-stretches.stretches.items) (sym count) (subst (All (IsRunWithin c.room_for-count.result)) c.deref-6.ensures.value c.room_for-count.ensures.within);
    }

pub returns-in_err-keys-clause-refused : goal.returns-in_err-keys-clause-refused
returns-in_err-keys-clause-refused c =
    let lines : ArePartLines c.args.flat.now.equations c.args.entries.now (length c.args.entries.now) c.in_ok-lines.lines.items =
    joined_lines c.args.flat.now.equations c.args.entries.now c.in_ok-sides.sides.items (length c.args.entries.now) c.in_ok-lines.lines.items c.in_ok-sides.ensures.sides
    (subst (λ sides. AreJoinedTo c.args.entries.now sides (length c.args.entries.now) c.in_ok-lines.lines.items) c.deref.ensures.value c.in_ok-lines.ensures.lines) in
    due_err (λ many. too_many_keys c.args.flat.now.equations c.args.flat.now.names c.args.entries.now c.in_ok-lines.lines.items (with_keys [] (keys_of_lines c.in_ok-lines.lines.items)) lines refl
    (subst (λ ls. 2 ^ 32 ≤ length (with_keys [] (keys_of_lines ls))) c.deref-2.ensures.value many)) c.from_residual-in_err-keys.result c.in_err-keys.field-0.0 c.from_residual-in_err-keys.ensures.1 c.in_err-keys.ensures.refused

pub returns-in_err-landings-clause-refused : goal.returns-in_err-landings-clause-refused
returns-in_err-landings-clause-refused c =
    let lines : ArePartLines c.args.flat.now.equations c.args.entries.now (length c.args.entries.now) c.in_ok-lines.lines.items =
    joined_lines c.args.flat.now.equations c.args.entries.now c.in_ok-sides.sides.items (length c.args.entries.now) c.in_ok-lines.lines.items c.in_ok-sides.ensures.sides
    (subst (λ sides. AreJoinedTo c.args.entries.now sides (length c.args.entries.now) c.in_ok-lines.lines.items) c.deref.ensures.value c.in_ok-lines.ensures.lines) in
    let keys : c.in_ok-keys.keys ≡ with_keys [] (keys_of_lines c.in_ok-lines.lines.items) = c.in_ok-keys.ensures.keys ∙ ap (λ ls. with_keys [] (keys_of_lines ls)) c.deref-2.ensures.value in
    let laid_out : AreLaidOutFor c.in_ok-keys.keys c.in_ok-lines.lines.items = laid c.args.flat.now.equations c.args.flat.now.names c.args.entries.now c.in_ok-lines.lines.items c.in_ok-keys.keys lines keys in
    due_err (λ unlaid. absurd (unlaid (subst (AreLaidOutFor c.in_ok-keys.keys) (sym c.deref-3.ensures.value) laid_out))) c.from_residual-in_err-landings.result c.in_err-landings.field-0.0 c.from_residual-in_err-landings.ensures.1 c.in_err-landings.ensures.refused

pub returns-in_err-coded-clause-refused : goal.returns-in_err-coded-clause-refused
returns-in_err-coded-clause-refused c =
    let lines : ArePartLines c.args.flat.now.equations c.args.entries.now (length c.args.entries.now) c.in_ok-lines.lines.items =
    joined_lines c.args.flat.now.equations c.args.entries.now c.in_ok-sides.sides.items (length c.args.entries.now) c.in_ok-lines.lines.items c.in_ok-sides.ensures.sides
    (subst (λ sides. AreJoinedTo c.args.entries.now sides (length c.args.entries.now) c.in_ok-lines.lines.items) c.deref.ensures.value c.in_ok-lines.ensures.lines) in
    let keys : c.in_ok-keys.keys ≡ with_keys [] (keys_of_lines c.in_ok-lines.lines.items) = c.in_ok-keys.ensures.keys ∙ ap (λ ls. with_keys [] (keys_of_lines ls)) c.deref-2.ensures.value in
    let laid_out : AreLaidOutFor c.in_ok-keys.keys c.in_ok-lines.lines.items = laid c.args.flat.now.equations c.args.flat.now.names c.args.entries.now c.in_ok-lines.lines.items c.in_ok-keys.keys lines keys in
    due_err (λ unlaid. absurd (unlaid (subst (AreLaidOutFor c.in_ok-keys.keys) (sym c.deref-4.ensures.value) laid_out))) c.from_residual-in_err-coded.result c.in_err-coded.field-0.0 c.from_residual-in_err-coded.ensures.1 c.in_err-coded.ensures.refused

pub returns-in_err-stretches-clause-refused : goal.returns-in_err-stretches-clause-refused
returns-in_err-stretches-clause-refused c =
    let names : c.as_slice-names.result.now ≡ c.args.flat.now.names = c.as_slice-names.ensures in
    let lines : ArePartLines c.args.flat.now.equations c.args.entries.now (length c.args.entries.now) c.in_ok-lines.lines.items =
    joined_lines c.args.flat.now.equations c.args.entries.now c.in_ok-sides.sides.items (length c.args.entries.now) c.in_ok-lines.lines.items c.in_ok-sides.ensures.sides
    (subst (λ sides. AreJoinedTo c.args.entries.now sides (length c.args.entries.now) c.in_ok-lines.lines.items) c.deref.ensures.value c.in_ok-lines.ensures.lines) in
    let keys : c.in_ok-keys.keys ≡ with_keys [] (keys_of_lines c.in_ok-lines.lines.items) = c.in_ok-keys.ensures.keys ∙ ap (λ ls. with_keys [] (keys_of_lines ls)) c.deref-2.ensures.value in
    let given : AreCodeLines c.in_ok-keys.keys c.in_ok-lines.lines.items (length c.in_ok-lines.lines.items) c.in_ok-coded.coded.items =
    subst (λ ls. AreCodeLines c.in_ok-keys.keys ls (length ls) c.in_ok-coded.coded.items) c.deref-4.ensures.value c.in_ok-coded.ensures.lines in
    due_err (λ run. no_code c.args.flat.now.equations c.args.flat.now.names c.args.entries.now c.in_ok-lines.lines.items c.in_ok-keys.keys lines keys c.in_ok-coded.coded.items given
    (subst (λ ls. IsRefusedRun c.args.flat.now.names c.in_ok-keys.keys c.args.entries.now ls) c.deref-5.ensures.value (subst (λ ns. IsRefusedRun ns c.in_ok-keys.keys c.args.entries.now c.deref-5.result.now) names run)))
    c.from_residual-in_err-stretches.result c.in_err-stretches.field-0.0 c.from_residual-in_err-stretches.ensures.1 c.in_err-stretches.ensures.refused
