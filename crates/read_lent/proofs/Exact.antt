-- One answer and one record of a file: with the record, each answer is one of the walk by value, of which all is told. The record is the one after that walk.
-- Assumes nothing.
use Rattle.std.proofs.Common.{◌≡◌, ℕ, List, refl, sym, ap, ◌∙◌}
use Rattle.std.specs.Prelude as std
use Rattle.std.specs.Prelude.{OnErr}
use Rattle.box_refusal.specs.declared.Refusal.{Refusal}
use Rattle.read_record.specs.declared.Jp2.{Jp2}
use Rattle.read_record.proofs.Exact.{by_value, apart}
use Rattle.read_rules.specs.declared.FileEnd.{FileEnd}
use Rattle.read_rules.specs.declared.FileEnd.TheVariants.{Codestream, Ended}
use Rattle.read_rules.specs.File.{walked, after}
use Rattle.read_rules.proofs.Once.{walked-once}
use Rattle.read_lent.specs.LentFile.{leaves_file}
use Rattle.read_lent.specs.Exact.{OneReading, RecordAfter}

file-left-is : (a : std.Result FileEnd (Refusal ℕ)) (k : Jp2) → leaves_file a k ≡ walked (by_value (λ end j. record { end = end; jp2 = j }) a k)
file-left-is (std.Ok end) k = refl
file-left-is (std.Err r) k = refl

pub one-reading : OneReading
one-reading a b j k s i e p f q = apart (λ end j. record { end = end; jp2 = j }) (λ r. r.end) (λ r. r.jp2) (λ end j. refl) (λ end j. refl) a b i j k (walked-once _ _ (sym (file-left-is a j) ∙ e.exact ∙ sym f.exact ∙ file-left-is b k)) p q

left-after : (r : std.Result FileEnd (Refusal ℕ)) (j i : Jp2) → OnErr r (j ≡ i) → j ≡ after i (leaves_file r j)
unfolding after
left-after (std.Ok (Codestream offset)) j i q = refl
left-after (std.Ok Ended) j i q = refl
left-after (std.Err e) j i q = q

pub record-after : RecordAfter
record-after r j s i f q = left-after r j i q ∙ ap (after i) f.exact
