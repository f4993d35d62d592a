-- What LBox says of the two lengths, and what an answer says of the bytes.
-- Assumes nothing.
use Prim.Native.Nat.{ℕ, ◌+◌, ◌-◌, ◌*◌, ◌≤◌, ◌<◌}
use native.Mathlib.Omega.{arith}
use mathlib.Core.Path.{◌≡◌, refl, sym, ap, subst, ◌∙◌}
use mathlib.Core.List.{List}
use lib.ListN.{length, take, drop}
use Rattle.box_number.specs.Number.{number, part}
use Rattle.box_kind.specs.Kind.{kind_of}
use Rattle.box_kind.specs.declared.Jp2BoxType.{Jp2BoxType}
use Rattle.box_header.specs.Box.{LBox, length_of_header, box_length, header_of, header, child_header}
use Rattle.box_header.specs.declared.Jp2BoxHeader.{Jp2BoxHeader}
use Rattle.std.specs.Prelude.{Result, Ok, Err}
use Rattle.box_header.specs.declared.NoHeader.{NoHeader}
use Rattle.box_number.proofs.Rows.{row, each}

module _ (c : List ℕ) where
  pub header_16 : LBox c ≡ 1 → length_of_header c ≡ 16
  unfolding length_of_header
  header_16 h = sym (row 0 _ h refl)

  pub header_8 : (LBox c ≡ 1 → ⊥) → length_of_header c ≡ 8
  unfolding length_of_header
  header_8 h = sym (row 1 _ (omega arith) refl)

  pub header-least : 8 ≤ length_of_header c
  unfolding length_of_header
  header-least = each (λ n. 8 ≤ n) _ (omega arith)

  pub box-all : LBox c ≡ 0 → box_length c ≡ length c
  unfolding box_length
  box-all h = sym (row 0 _ h refl)

  pub box-long : LBox c ≡ 1 → box_length c ≡ number c 8 4 * 4294967296 + number c 12 4
  unfolding box_length number
  box-long h = sym (row 1 _ (omega arith) (omega arith))

  pub box-plain : (LBox c ≡ 0 → ⊥) → (LBox c ≡ 1 → ⊥) → box_length c ≡ LBox c
  unfolding box_length
  box-plain h k = sym (row 2 _ (omega arith) refl)

  -- a header of three fields that are those of the bytes
  pub header_made : {l h n : ℕ} {t : Jp2BoxType} → l ≡ box_length c → n ≡ number c 4 4 → t ≡ kind_of n → h ≡ length_of_header c → ◌≡◌ {A = Result Jp2BoxHeader NoHeader} (Ok (record { length = l; ty = t; header_length = h })) (Ok (header_of c))
  header_made p q r o = cc

-- a header that was found at c, and lies in it
pub record Headed (c : List ℕ) (h : Jp2BoxHeader) : Type 0 where
  pub is : h ≡ header_of c
  pub long : h.length ≡ box_length c
  pub head : h.header_length ≡ length_of_header c
  pub whole : length_of_header c ≤ length c
  pub low : box_length c ≤ 4294967295

-- what an answer says of the bytes: the header is there, or P
abbrev Shown : (Jp2BoxHeader → Type 0) → Type 0 → Result Jp2BoxHeader NoHeader → Type 0
Shown H P (Ok h) = H h
Shown H P (Err e) = P

module _ (H : Jp2BoxHeader → Type 0) (P : Type 0) where
  shown-header : {r s : Result Jp2BoxHeader NoHeader} {h : Jp2BoxHeader} → Shown H P s → r ≡ s → r ≡ Ok h → H h
  shown-header p e f = subst (Shown H P) (sym e ∙ f) p

  shown-missing : (r : Result Jp2BoxHeader NoHeader) {s : Result Jp2BoxHeader NoHeader} → Shown H P s → r ≡ s → ((h : Jp2BoxHeader) → r ≡ Ok h → ⊥) → P
  shown-missing r p e = go r (subst (Shown H P) (sym e) p)
    where
      go : (r : Result Jp2BoxHeader NoHeader) → Shown H P r → ((h : Jp2BoxHeader) → r ≡ Ok h → ⊥) → P
      go (Ok h) q m = absurd (m h refl)
      go (Err e) q m = q

module _ (c : List ℕ) where
  abbrev NoBox : Type 0
  NoBox = length_of_header c ≤ length c → 4294967295 < box_length c

  header-shows : Shown (Headed c) NoBox (header c)
  unfolding header
  header-shows =
      each (Shown (Headed c) NoBox) _
      ((λ h k. omega (arith, header-least c)), λ h. ((λ k l. omega arith), λ k. ((λ l m. l), λ l. record { is = refl; long = refl; head = refl; whole = k; low = l })))

  pub header-found : {r : Result Jp2BoxHeader NoHeader} {h : Jp2BoxHeader} → r ≡ header c → r ≡ Ok h → Headed c h
  header-found = shown-header (Headed c) NoBox header-shows

  pub header-missing : (r : Result Jp2BoxHeader NoHeader) → r ≡ header c → ((h : Jp2BoxHeader) → r ≡ Ok h → ⊥) → length_of_header c ≤ length c → 4294967295 < box_length c
  header-missing r = shown-missing (Headed c) NoBox r header-shows

  -- inside a superbox
  abbrev InSuperbox : Jp2BoxHeader → Type 0
  InSuperbox h = Headed c h × (LBox c ≡ 0 → ⊥)

  abbrev NoChild : Type 0
  NoChild = length_of_header c ≤ length c → (LBox c ≡ 0 → ⊥) → 4294967295 < box_length c

  child-shows : Shown InSuperbox NoChild (child_header c)
  unfolding child_header
  child-shows =
      each (Shown InSuperbox NoChild) _
      ((λ h. carry (header c) header-shows (λ k z. omega (arith, header-least c))), λ h. ((λ z k l. absurd (l z)), λ z. carry (header c) header-shows (λ k. z)))
    where
      carry : (r : Result Jp2BoxHeader NoHeader) → Shown (Headed c) NoBox r → (length_of_header c ≤ length c → LBox c ≡ 0 → ⊥) → Shown InSuperbox NoChild r
      carry (Ok h) s n = (s, n s.whole)
      carry (Err e) s n = λ k l. s k

  pub child-found : {r : Result Jp2BoxHeader NoHeader} {h : Jp2BoxHeader} → r ≡ child_header c → r ≡ Ok h → Headed c h × (LBox c ≡ 0 → ⊥)
  child-found = shown-header InSuperbox NoChild child-shows

  pub child-missing : (r : Result Jp2BoxHeader NoHeader) → r ≡ child_header c → ((h : Jp2BoxHeader) → r ≡ Ok h → ⊥) → length_of_header c ≤ length c → (LBox c ≡ 0 → ⊥) → 4294967295 < box_length c
  child-missing r = shown-missing InSuperbox NoChild r child-shows

-- a box's content, by where it ends and by how long it is
pub part-content : (c : List ℕ) (h : Jp2BoxHeader) {n : ℕ} → n ≡ h.length - h.header_length → part c h.header_length (h.header_length + n) ≡ part c h.header_length h.length
unfolding part
part-content c h {n} e = let z : h.header_length + n - h.header_length ≡ h.length - h.header_length = omega arith in ap (λ m. take m (drop h.header_length c)) z
