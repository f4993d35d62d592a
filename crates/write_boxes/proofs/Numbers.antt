-- Numbers that are put one after the other: their length, one turn of the loop, and a box of numbers.
-- Assumes nothing.
use Rattle.std.proofs.Common.{◌≡◌, ℕ, ◌+◌, ◌≤◌, ◌<◌, true, nat_lt, List, [], ◌∷◌, ◌++◌, length, get_or, take, take_all, length-append, fold, refl, sym, ap, ap₂, ◌∙◌, arith}
use Rattle.std.proofs.lemmas.List.Sums.{AllPass-from_list_all, sum_by-take-le, fold_more}
use borrow.Author.Tests.{ltb-true}
use Rattle.box_number.specs.Number.{bytes, written}
use Rattle.box_number.proofs.Bytes.{length-bytes, written-fits}
use Rattle.box_kind.specs.declared.Jp2BoxType.{Jp2BoxType}
use Rattle.write_rules.specs.Box.{box_header, box}
use Rattle.write_boxes.specs.declared.Writer.{Writer}
use Rattle.write_boxes.specs.Private.Numbers.{narrow, width, joined}
use Rattle.write_boxes.specs.Private.Writing.{HasRoom, Puts}
use Rattle.write_boxes.proofs.Pieces.{placed-puts, then, renamed, box-put}

length-from : (numbers : List (ℕ × ℕ)) (xs : List ℕ) (k : ℕ) → length xs ≡ k → length (fold (λ ys n. ys ++ bytes n.0 n.1) xs numbers) ≡ fold (λ m n. m + n.0) k numbers
length-from [] xs k e = e
length-from (n ∷ numbers) xs k e = length-from numbers (xs ++ bytes n.0 n.1) (k + n.0) (length-append xs (bytes n.0 n.1) ∙ ap₂ ◌+◌ e (length-bytes n.0 n.1))

pub length-joined : (numbers : List (ℕ × ℕ)) → length (joined numbers) ≡ width numbers
length-joined numbers = length-from numbers [] 0 refl

module _ (o : Writer) (numbers : List (ℕ × ℕ)) where
  -- the first i of them
  abbrev pub First : ℕ → Writer → Type 0
  First i p = Puts o p (joined (take i numbers)) (width (take i numbers))

  module _ (i : ℕ) (z : ℕ × ℕ) (l : i < length numbers) (room : HasRoom o (width numbers)) where
    abbrev n : ℕ × ℕ
    n = get_or numbers i z

    width-more : width (take (i + 1) numbers) ≡ width (take i numbers) + n.0
    width-more = fold_more (λ k x. k + x.0) 0 numbers i z l

    joined-more : joined (take (i + 1) numbers) ≡ joined (take i numbers) ++ bytes n.0 n.1
    joined-more = fold_more (λ (xs : List ℕ) x. xs ++ bytes x.0 x.1) [] numbers i z l

    pub has_room : HasRoom o (width (take i numbers) + n.0)
    has_room = omega (arith, width-more, sum_by-take-le (λ (x : ℕ × ℕ). x.0) numbers (i + 1))

    pub next : narrow numbers ≡ true → {p q : Writer} → First i p → q.d.ghost_name ≡ p.d.ghost_name → q.at ≡ p.at + n.0 → q.d.now ≡ written p.d.now p.at n.0 n.1 → First (i + 1) q
    next h {p} {q} a loan place w =
        let few : n.0 < 5 = ltb-true n.0 5 (AllPass-from_list_all (λ x. nat_lt x.0 5) numbers h i z l) in
        let fits : HasRoom p n.0 = omega (arith, has_room, a.place, a.long) in
        let b : Puts p q (bytes n.0 n.1) n.0 = placed-puts loan place (w ∙ written-fits p.d.now p.at n.0 n.1 (omega arith) fits) (length-bytes n.0 n.1) fits in
        renamed (sym joined-more) (sym width-more) (then a (length-joined (take i numbers)) b (length-bytes n.0 n.1) has_room)

  pub all : {p : Writer} (i : ℕ) → length numbers ≤ i → First i p → Puts o p (joined numbers) (width numbers)
  all i l a = let q = take_all i numbers l in renamed (ap joined q) (ap width q) a

pub box-numbers : {o p q : Writer} (kind : Jp2BoxType) (numbers : List (ℕ × ℕ)) → Puts o p (box_header kind (width numbers)) 8 → Puts p q (joined numbers) (width numbers) → HasRoom o (8 + width numbers) → Puts o q (box kind (joined numbers)) (8 + width numbers)
box-numbers kind numbers header p room = box-put kind (width numbers) header (joined numbers) (width numbers) p (length-joined numbers) refl room
