-- Palette, mappings and profile lie apart from the definition list: so they are the same whatever bytes it has.
-- Assumes nothing.
use Prim.Native.Nat.{ℕ, zero, suc, ◌+◌, ◌*◌, ◌≤◌, ◌<◌}
use mathlib.Core.Path.{◌≡◌}
use mathlib.Core.List.{List}
use native.Mathlib.Nat.{mul-le-mul_right}
use native.Mathlib.Omega.{arith}
use Rattle.box_number.specs.Number.{number}
use Rattle.box_number.specs.Table.{◌=?◌, otherwise, ◌⇒◌∣◌}
use Rattle.box_number.proofs.Rows.{each}
use Rattle.read_record.specs.declared.Palette.{Palette}
use Rattle.read_record.specs.declared.Jp2.{Jp2}
use Rattle.read_record.specs.Answer.{accepted}
use Rattle.read_palette.specs.Pclr.{entry_bytes, row_bytes, row_size, B, Cji}
use Rattle.read_rules.specs.File.{read}
use Rattle.read_rules.specs.Range.{end}
use Rattle.read_rules.specs.Alike.{Alike, given, definition_range}
use Rattle.read_rules.specs.Apart.{rows, kept}
use Rattle.read_rules.specs.Free.{PaletteFree, MappingsFree, ProfileFree}
use Rattle.read_rules.proofs.Sames.{Same, number_same, row_same, part_same}
use Rattle.read_rules.proofs.Ranges.{nth, inside-nth, apart-nth}
use Rattle.read_rules.proofs.Lists.{lists-apart}

row_more : (s : List ℕ) (at i n : ℕ) → i ≤ n → row_bytes s at i ≤ row_bytes s at n
unfolding row_bytes
row_more s at i zero h = let z : i ≡ 0 = omega arith in rw z (omega arith)
row_more s at i (suc n) h = each (λ (_ : ℕ). row_bytes s at i ≤ row_bytes s at (suc n)) (i =? suc n ⇒ 0 ∣ otherwise 0) ((λ z. rw z (omega arith)), λ z. omega (arith, row_more s at i n (omega arith)))

-- an entry ends before the palette does
entry-room : (s : List ℕ) (at n all j i : ℕ) → j < all → i < n → j * row_bytes s at n + row_bytes s at i + entry_bytes (number s (at + i) 1) ≤ all * row_bytes s at n
unfolding row_bytes
entry-room s at n all j i h l = omega (arith, row_more s at (suc i) n l, mul-le-mul_right (row_bytes s at n) h)

palette-same : {f g : List ℕ} (p : Palette) → ((q l : ℕ) → p.place ≤ q → q + l ≤ end (rows f p) → Same f q g q l) → (j i : ℕ) → j < p.entries → i < p.columns → Cji g p j i ≡ Cji f p j i
unfolding Cji
palette-same {f} {g} p s j i h l =
    let b : B g p i ≡ B f p i = number_same 1 (s (p.place + i) 1 (omega arith) (omega arith)) in
    let w : row_size g p ≡ row_size f p = row_same p.columns (s p.place p.columns (omega arith) (omega arith)) in
    let k : row_bytes g p.place i ≡ row_bytes f p.place i = row_same i (s p.place i (omega arith) (omega arith)) in
    rw (b, w, k) (number_same (entry_bytes (B f p i)) (s _ _ (omega arith) (omega (arith, entry-room f p.place p.columns p.entries j i h l))))

-- f is read to m, and g differs from f at most in the definition list, the last that m keeps
module _ (f g : List ℕ) (m : Jp2) (e : given (read f) ≡ accepted m) (a : Alike f g (definition_range m)) where
  -- any bytes of another list
  pub kept_same : (i : ℕ) → i < 5 → (q l : ℕ) → (nth i (kept f m)).place ≤ q → q + l ≤ end (nth i (kept f m)) → Same f q g q l
  kept_same i h q l from to =
      let p = lists-apart f m e in
      record { byte = λ k b. a.outside (q + k) (omega (arith, inside-nth i (kept f m) p.0)) (apart-nth i 5 (kept f m) p.1 h (q + k) (omega arith)) }

pub palette-free : PaletteFree
palette-free f g m e a =
    let s = kept_same f g m e a 3 (omega arith) in
    record { bits = λ i h. number_same 1 (s _ 1 (omega arith) (omega arith)); entry = λ j i h l. palette-same m.lists.pclr s j i (omega arith) (omega arith) }

pub mappings-free : MappingsFree
mappings-free f g m e a =
    let s = kept_same f g m e a 4 (omega arith) in
    record {
      component = λ i h. number_same 2 (s _ 2 (omega arith) (omega arith));
      type = λ i h. number_same 1 (s _ 1 (omega arith) (omega arith));
      column = λ i h. number_same 1 (s _ 1 (omega arith) (omega arith));
    }

pub profile-free : ProfileFree
profile-free f g m e a = part_same _ _ a.long (kept_same f g m e a 2 (omega arith) _ _ (omega arith) (omega arith))
