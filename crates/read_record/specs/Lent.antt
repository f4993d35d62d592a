-- What a step over a lent record leaves: the record at exit where it accepts, else its refusal. The steps inside a walk promise no more; a reader over a lent record promises `Lent`.
use Rattle.std.specs.Prelude.{◌≡◌, ℕ, ⊤, OnErr}
use Rattle.std.specs.Prelude as std
use Rattle.box_refusal.specs.declared.Refusal.{Refusal}
use Rattle.box_refusal.specs.Told.{Told, accepted, refused, number}
use Rattle.read_record.specs.declared.Jp2.{Jp2}

abbrev pub leaves : std.Result ⊤ (Refusal ℕ) → Jp2 → Told Jp2
leaves (std.Ok u) k = accepted k
leaves (std.Err r) k = refused (number r.cause) r.place

-- the promise of such a reader, where the record is i at entry and j at exit, and the reader's definition says d: that is what it leaves, and a refusal leaves the record as it was
abbrev pub Lent : std.Result ⊤ (Refusal ℕ) → Jp2 → Jp2 → Told Jp2 → Type 0
Lent a i j d = (leaves a j ≡ d) × OnErr a (j ≡ i)

-- it leaves one answer and one record
abbrev pub OneOutcome : Type 0
OneOutcome = (a b : std.Result ⊤ (Refusal ℕ)) (i j k : Jp2) (d : Told Jp2) → Lent a i j d → Lent b i k d → (a ≡ b) × (j ≡ k)
