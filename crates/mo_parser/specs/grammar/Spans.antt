-- Pieces of the text.
use Rattle.std.specs.Prelude.{ℕ, nat_le, ◌&&◌, if◌then◌else◌, List, [], length, slice_range}
use Rattle.mo_parser.specs.declared.tree.Span.{Span}

-- the bytes of a span, and none where it does not lie in the text
abbrev pub spelled : List ℕ → Span → List ℕ
spelled text span = if nat_le span.at span.end && nat_le span.end (length text) then slice_range text span.at span.end else []
