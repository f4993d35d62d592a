-- Each box sets at most one list, inside its content: so the lists lie apart.
-- Assumes nothing.
use Prim.Native.Nat.{ℕ, ◌+◌, ◌*◌, ◌≤◌}
use mathlib.Core.Path.{◌≡◌, ap}
use mathlib.Core.List.{List}
use native.Mathlib.Nat.{zero-add}
use native.Mathlib.Omega.{arith}
use lib.ListN.{length}
use Rattle.read_record.specs.declared.Jp2.{Jp2}
use Rattle.read_record.specs.Record.{blank}
use Rattle.read_palette.specs.Pclr.{NE, NPC, row_bytes}
use Rattle.read_rules.specs.Range.{Range, end}
use Rattle.read_rules.specs.Apart.{entries, rows, kept, ListsApart}
use Rattle.read_rules.proofs.Sames.{within, row_same}
use Rattle.read_rules.proofs.Parts.{Lies}
use Rattle.read_rules.proofs.Changes.{Change, marked, typed, sized, deep, tinted, cielab, profiled, indexed, mapped, defined, Law}
use Rattle.read_rules.proofs.Ranges.{Placed, put, placed-none, placed-later, placed-empty, placed-put}
use Rattle.read_rules.proofs.Definitions.{read-moves}

-- a palette's columns in its box are its columns in the file
pub rows_lie : {f : List ℕ} {start : ℕ} {c : List ℕ} → Lies f start c → 3 + NPC c ≤ length c → row_bytes c 3 (NPC c) ≡ row_bytes f (start + 3) (NPC c)
rows_lie {f} {start} {c} lies h = row_same (NPC c) (within lies.same 3 (NPC c) h)

module _ (f : List ℕ) (start : ℕ) (c : List ℕ) (j : Jp2) (p : Placed start (kept f j)) where
  none : Placed (start + length c) (kept f j)
  none = placed-later (kept f j) (omega arith) p

  new : (i : ℕ) (r : Range) → start ≤ r.place → end r ≤ start + length c → Placed (start + length c) (put i r (kept f j))
  new i r from to = placed-put start (start + length c) r (omega arith) from to i (kept f j) p

  placed-change : (m : Jp2) → Lies f start c → Change start c j m → Placed (start + length c) (kept f m)
  placed-change m lies (marked s g) = none
  placed-change m lies (typed t h) = new 0 (entries 4 m.lists.cl) (omega arith) (omega arith)
  placed-change m lies (sized i h) = none
  placed-change m lies deep = new 1 (entries 1 m.lists.bpcc) (omega arith) (omega arith)
  placed-change m lies (tinted k g) = none
  placed-change m lies (cielab k g) = placed-empty (start + length c) 2 (kept f j) none
  placed-change m lies (profiled k g h) = new 2 (entries 1 m.lists.icc) (omega arith) (omega arith)
  placed-change m lies (indexed z ne most npc room) =
      let e : NE c * row_bytes c 3 (NPC c) ≡ NE c * row_bytes f (start + 3) (NPC c) = ap (λ (x : ℕ). NE c * x) (rows_lie lies (omega arith)) in
      new 3 (rows f m.lists.pclr) (omega arith) (omega arith)
  placed-change m lies (mapped some h) = new 4 (entries 4 m.lists.cmap) (omega arith) (omega arith)
  placed-change m lies (defined z n h) = new 5 (entries 6 m.lists.cdef) (omega arith) (omega arith)

placed : (f : List ℕ) → Law f (λ n m. Placed n (kept f m))
placed f = record { later = λ {m} a b. placed-later (kept f m); change = λ start c j m lies h p. placed-change f start c j p m lies h }

pub lists-apart : ListsApart
lists-apart f m e = rw zero-add at ((read-moves (placed f) m e).keeps (placed-none (kept f blank) (omega arith)))
