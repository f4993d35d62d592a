-- What is told of an answer has all of it.
-- Assumes nothing.
use Rattle.std.proofs.Common.{ℕ, ◌≡◌, refl, sym, ap, ◌∙◌}
use Rattle.std.specs.Prelude as std
use Rattle.box_refusal.specs.declared.Refusal.{Refusal}
use Rattle.box_refusal.specs.Told.{Told, accepted, refused, told}
use Rattle.box_refusal.proofs.Numbers.{told-once}
use Rattle.read_record.specs.declared.Jp2.{Jp2}
use Rattle.read_rules.specs.declared.FileEnd.{FileEnd}
use Rattle.read_rules.specs.declared.FileEnd.TheVariants.{Codestream, Ended}
use Rattle.read_rules.specs.declared.Reading.{Reading}
use Rattle.read_rules.specs.File.{Walked, codestream, ended, file_refused, came_to, walked, WalkedOnce}

-- a walk, as an answer that is accepted or refused
abbrev as_told : Walked → Told Reading
as_told (codestream offset k) = accepted (record { end = Codestream offset; jp2 = k })
as_told (ended k) = accepted (record { end = Ended; jp2 = k })
as_told (file_refused number place) = refused number place

ends : (end : FileEnd) (k : Jp2) → as_told (came_to end k) ≡ accepted (record { end = end; jp2 = k })
ends (Codestream offset) k = refl
ends Ended k = refl

the_same : (a : std.Result Reading (Refusal ℕ)) → as_told (walked a) ≡ told a
the_same (std.Ok r) = ends r.end r.jp2
the_same (std.Err r) = refl

pub walked-once : WalkedOnce
walked-once a b e = told-once a b (sym (the_same a) ∙ ap as_told e ∙ the_same b)
