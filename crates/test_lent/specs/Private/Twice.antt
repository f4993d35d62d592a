-- Two contents that one reader reads, one after the other, over the same lent record.
use Rattle.std.specs.Prelude.{ℕ, List, ⊤}
use Rattle.std.specs.Prelude as std
use Rattle.box_refusal.specs.declared.Refusal.{Refusal}
use Rattle.box_refusal.specs.Told.{Told}
use Rattle.read_record.specs.declared.Jp2.{Jp2}
use Rattle.read_record.specs.Lent.{Lent}

abbrev pub Answer : Type 0
Answer = std.Result ⊤ (Refusal ℕ)

-- both answers, and the record i at entry and j at exit, are what the reader's definition d says; k is the record between the contents
abbrev pub ReadTwice : (List ℕ → Jp2 → Told Jp2) → List ℕ → List ℕ → Jp2 → Jp2 → Answer × Answer → Type 0
ReadTwice d first second i j r = (k : Jp2) × Lent r.0 i k (d first i) × Lent r.1 k j (d second k)
