-- What writing answers: the count of bytes written, which is where the codestream goes; or document 01's number with its index or needed length.
use Rattle.std.specs.Prelude.{ℕ, length}
use Rattle.box_refusal.specs.Told.{Told, accepted, refused}
use Rattle.write_rules.specs.Writing.{Writing, written, declined}

unfoldable pub answered : Writing → Told ℕ
answered (written bs) = accepted (length bs)
answered (declined number place) = refused number place
