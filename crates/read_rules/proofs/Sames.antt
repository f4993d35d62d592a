-- Where bytes are the same, so are the numbers that they make, the header of a box, and the bytes of a row.
-- Assumes nothing.
use Prim.Native.Nat.{ℕ, zero, suc, ◌+◌, ◌-◌, ◌≤◌, ◌<◌}
use mathlib.Core.Path.{◌≡◌, refl, sym, ◌∙◌}
use mathlib.Core.List.{List}
use native.Mathlib.Nat.{add_assoc}
use native.Mathlib.Omega.{arith}
use lib.ListN.{length, get_or, take, drop, length-take, length-drop}
use lib.Seq.{get_or-take, get_or-drop, ext_get_or}
use Rattle.box_number.specs.Number.{number, part}
use Rattle.box_number.proofs.Rows.{row, each}
use Rattle.box_header.specs.Box.{LBox, TBox, length_of_header, box_length}
use Rattle.box_header.proofs.Headers.{header-least, header_16}
use Rattle.read_palette.specs.Pclr.{row_bytes}

-- n bytes of c from p on, and of e from q on
pub record Same (c : List ℕ) (p : ℕ) (e : List ℕ) (q n : ℕ) : Type 0 where
  pub byte : (i : ℕ) → i < n → get_or e (q + i) 0 ≡ get_or c (p + i) 0

pub within : {c e : List ℕ} {p q n : ℕ} → Same c p e q n → (k l : ℕ) → k + l ≤ n → Same c (p + k) e (q + k) l
within {c} {e} {p} {q} s k l h = record { byte = λ i b. rw (add_assoc q k i, add_assoc p k i) (s.byte (k + i) (omega arith)) }

pub shorter : {c e : List ℕ} {p q n : ℕ} → Same c p e q n → (l : ℕ) → l ≤ n → Same c p e q l
shorter s l h = record { byte = λ i b. s.byte i (omega arith) }

pub number_same : {c e : List ℕ} {p q : ℕ} (n : ℕ) → Same c p e q n → number e q n ≡ number c p n
unfolding number
number_same zero s = refl
number_same (suc n) s = rw (number_same n (shorter s n (omega arith)), s.byte n (omega arith))

-- the columns' Bi
pub row_same : {c e : List ℕ} {p q : ℕ} (n : ℕ) → Same c p e q n → row_bytes e q n ≡ row_bytes c p n
unfolding row_bytes
row_same zero s = refl
row_same (suc n) s = rw (row_same n (shorter s n (omega arith)), number_same 1 (within s n 1 (omega arith)))

pub part_same : {c e : List ℕ} (s t : ℕ) → length e ≡ length c → Same c s e s (t - s) → part e s t ≡ part c s t
unfolding part
part_same {c} {e} s t long same =
    ext_get_or 0 (take (t - s) (drop s e)) (take (t - s) (drop s c)) (simp (length-take, length-drop, long))
    λ i l. let b : i < t - s = omega (arith, length-take (t - s) (drop s e)) in rw (get_or-take (t - s) (drop s e) i 0 b, get_or-take (t - s) (drop s c) i 0 b, get_or-drop s e i 0, get_or-drop s c i 0) (same.byte i b)

-- all that a header says of its box
pub record Headed (c e : List ℕ) : Type 0 where
  pub long : length e ≡ length c
  pub first : LBox e ≡ LBox c
  pub type : TBox e ≡ TBox c
  pub header : length_of_header e ≡ length_of_header c
  pub box : box_length e ≡ box_length c

pub headed_self : (c : List ℕ) → Headed c c
headed_self c = record { long = refl; first = refl; type = refl; header = refl; box = refl }

module _ (c e : List ℕ) (long : length e ≡ length c) (s : Same c 0 e 0 (length_of_header c)) where
  first-same : LBox e ≡ LBox c
  first-same = number_same 4 (shorter s 4 (omega (arith, header-least c)))

  header-same : length_of_header e ≡ length_of_header c
  unfolding length_of_header
  header-same = rw first-same

  box-same : box_length e ≡ box_length c
  unfolding box_length
  box-same =
      sym (each (λ n. n ≡ box_length e) _ (
        (λ z. row 0 _ (first-same ∙ z) (sym long)),
        λ z. (
          (λ o. let h = header_16 c o in row 1 _ (omega (arith, first-same)) (sym (number_same 8 (within s 8 8 (omega arith))))),
          λ o.
              row 2 _ (omega (arith, first-same)) (sym first-same),
        ),
      ))

  pub headed : Headed c e
  headed = record { long = long; first = first-same; type = number_same 4 (within s 4 4 (omega (arith, header-least c))); header = header-same; box = box-same }
