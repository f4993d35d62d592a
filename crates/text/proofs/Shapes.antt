-- A shape letter by letter, and numbers one by one.
-- Assumes nothing.
use Prim.Native.Nat.{ℕ, zero, suc, ◌+◌, ◌-◌, ◌≤◌, ◌<◌, min}
use native.Mathlib.Omega.{arith}
use native.Mathlib.Numerals.{add-one}
use mathlib.Core.Path.{◌≡◌, refl, sym}
use mathlib.Core.List.{List, [], ◌∷◌, ◌++◌}
use lib.ListN.{length, get_or, take, drop, drop_of_length-le}
use Rattle.std.proofs.lemmas.List.{drop_more, drop_min, take_rest}
use Rattle.box_number.specs.Number.{number, least}
use Rattle.read_palette.specs.Pclr.{entry_bytes}
use Rattle.box_number.proofs.Rows.{row}
use Rattle.box_number.proofs.Numbers.{least-low}
use Rattle.read_palette.proofs.Entries.{entry-most}
use Rattle.text.specs.Text.{decimal, filled, behind, joined}
use Rattle.text.specs.Row.{values}

-- a letter of a shape: a mark where a number is left, and any other
filled-number : (b n : ℕ) (shape numbers : List ℕ) → b ≡ 35 → filled (b ∷ shape) (n ∷ numbers) ≡ decimal n ++ filled shape numbers
unfolding filled
filled-number b n shape numbers e = sym (row 0 _ e refl)

filled-other : (b : ℕ) (shape numbers : List ℕ) → (b ≡ 35 → length numbers < 1) → filled (b ∷ shape) numbers ≡ (b ∷ []) ++ filled shape numbers
unfolding filled
filled-other b shape [] e = refl
filled-other b shape (n ∷ numbers) e = sym (row 1 _ ((λ h. let l = e h in absurd (omega arith)), tt) refl)

pub filled-mark : (shape numbers : List ℕ) (i : ℕ) → i < length shape → get_or shape i 0 ≡ 35 → 0 < length numbers
    → filled (drop i shape) numbers ≡ decimal (get_or numbers 0 0) ++ filled (drop (i + 1) shape) (drop 1 numbers)
filled-mark shape [] i h e l = absurd (omega arith)
filled-mark shape (n ∷ numbers) i h e l = rw (drop_more shape i 0 h) (filled-number (get_or shape i 0) n (drop (i + 1) shape) numbers e)

pub filled-letter : (shape numbers : List ℕ) (i : ℕ) → i < length shape → (get_or shape i 0 ≡ 35 → length numbers < 1)
    → filled (drop i shape) numbers ≡ (get_or shape i 0 ∷ []) ++ filled (drop (i + 1) shape) numbers
filled-letter shape numbers i h e = rw (drop_more shape i 0 h) (filled-other (get_or shape i 0) (drop (i + 1) shape) numbers e)

pub filled-past : (shape numbers : List ℕ) (i : ℕ) → length shape ≤ i → filled (drop i shape) numbers ≡ []
unfolding filled
filled-past shape numbers i h = rw (drop_of_length-le shape h)

-- the text before number i, and numbers from number i on
abbrev pub gap : ℕ → List ℕ → List ℕ
gap zero between = []
gap (suc i) between = between

pub gap-more : (i : ℕ) (between : List ℕ) → between ≡ gap (i + 1) between
gap-more i between = rw (add-one i)

abbrev pub listed : ℕ → List ℕ → List ℕ → List ℕ
listed zero between numbers = joined between numbers
listed (suc i) between numbers = behind between numbers

pub listed-turn : (i : ℕ) (between : List ℕ) (n : ℕ) (numbers : List ℕ) → listed i between (n ∷ numbers) ≡ (gap i between ++ decimal n) ++ listed (i + 1) between numbers
unfolding behind joined
listed-turn zero between n numbers = refl
listed-turn (suc i) between n numbers = rw (add-one (suc i))

pub listed-none : (i : ℕ) (between : List ℕ) → listed i between [] ≡ []
unfolding behind joined
listed-none zero between = refl
listed-none (suc i) between = refl

pub joined-turn : (between numbers : List ℕ) (i : ℕ) → i < length numbers → listed i between (drop i numbers) ≡ (gap i between ++ decimal (get_or numbers i 0)) ++ listed (i + 1) between (drop (i + 1) numbers)
joined-turn between numbers i h = rw (drop_more numbers i 0 h) (listed-turn i between (get_or numbers i 0) (drop (i + 1) numbers))

pub joined-past : (between numbers : List ℕ) (i : ℕ) → length numbers ≤ i → listed i between (drop i numbers) ≡ []
joined-past between numbers i h = rw (drop_of_length-le numbers h) (listed-none i between)

-- the values of a palette's row, column by column
entry-all : (b : ℕ) → least (entry_bytes b) 4 ≡ entry_bytes b
entry-all b = least-low (entry_bytes b) 4 (entry-most b)

pub row-turn : (between depths c : List ℕ) (i : ℕ) {n r size : ℕ} → i < length depths → size ≡ entry_bytes (get_or depths i 0) → n ≡ number c 0 (least size 4) → r ≡ min size (length c)
    → listed i between (values (drop i depths) c) ≡ (gap i between ++ decimal n) ++ listed (i + 1) between (values (drop (i + 1) depths) (take (length c - r) (drop r c)))
unfolding values
row-turn between depths c i {n} {r} {size} h z e t =
    let b = get_or depths i 0 in
    rw (drop_more depths i 0 h, take_rest c r, e, t, drop_min size c, z, entry-all b) (listed-turn i between (number c 0 (entry_bytes b)) (values (drop (i + 1) depths) (drop (entry_bytes b) c)))

pub row-past : (between depths c : List ℕ) (i : ℕ) → length depths ≤ i → listed i between (values (drop i depths) c) ≡ []
unfolding values
row-past between depths c i h = rw (drop_of_length-le depths h) (listed-none i between)
