-- Pieces that are put one after the other, and a box: its header, and its content behind it.
-- Assumes nothing.
use Prim.Native.Nat.{ℕ, ◌+◌, ◌≤◌}
use native.Mathlib.Omega.{arith}
use mathlib.Core.Path.{◌≡◌, refl, sym, ap, ◌∙◌}
use mathlib.Core.List.{List, [], ◌++◌}
use lib.ListN.{length}
use Rattle.box_number.specs.Number.{placed}
use Rattle.box_number.proofs.Placing.{placed-none, length-placed}
use Rattle.box_number.proofs.Rows.{row}
use Rattle.box_number.proofs.Pieces.{piece}
use Rattle.box_header.specs.declared.Jp2BoxHeader.{Jp2BoxHeader}
use Rattle.box_header.specs.Box.{new_header, with_header}
use Rattle.box_kind.specs.declared.Jp2BoxType.{Jp2BoxType}
use Rattle.write_rules.specs.Box.{box_header, box}
use Rattle.write_rules.proofs.Lengths.{length-header}
use Rattle.write_boxes.specs.declared.Writer.{Writer}
use Rattle.write_boxes.specs.Private.Writing.{HasRoom, Puts}

-- a header without content, made longer and written where it has room
pub header-placed : (d : List ℕ) (at : ℕ) (kind : Jp2BoxType) (n : ℕ) {h : Jp2BoxHeader} → h ≡ new_header kind → at + 8 ≤ length d → with_header d at (record { length = h.length + n; ty = h.ty; header_length = h.header_length }) ≡ placed d at (box_header kind n)
unfolding with_header box_header
header-placed d at kind n e room = rw e (sym (row 1 _ (omega arith) refl))

-- the length stays where there was room
pub placed-puts : {o p : Writer} {xs : List ℕ} {n : ℕ} → p.d.ghost_name ≡ o.d.ghost_name → p.at ≡ o.at + n → p.d.now ≡ placed o.d.now o.at xs → length xs ≡ n → HasRoom o n → Puts o p xs n
placed-puts {o} {p} {xs} {n} loan place is l room = record { loan = loan; long = ap length is ∙ length-placed o.d.now o.at xs (omega arith); place = place; bytes = is }

-- nothing yet, one more piece, and the same under another name
pub none : (o : Writer) → Puts o o [] 0
none o = record { loan = refl; long = refl; place = omega arith; bytes = sym (placed-none o.d.now o.at) }

pub then : {o p q : Writer} {xs ys : List ℕ} {m n : ℕ} → Puts o p xs m → length xs ≡ m → Puts p q ys n → length ys ≡ n → HasRoom o (m + n) → Puts o q (xs ++ ys) (m + n)
then {o} {p} {q} {xs} {ys} {m} {n} a k b l room =
    let z = piece o.d.now o.at xs m (record { long = k; is = a.bytes; end = a.place }) ys n l room (b.place, b.bytes) in
    record { loan = b.loan ∙ a.loan; long = b.long ∙ a.long; place = z.end; bytes = z.is }

pub renamed : {o p : Writer} {xs ys : List ℕ} {m n : ℕ} → xs ≡ ys → m ≡ n → Puts o p xs m → Puts o p ys n
renamed e f a = rw (e, f) at a

pub box-put : {o p q : Writer} (kind : Jp2BoxType) (n : ℕ) → Puts o p (box_header kind n) 8 → (content : List ℕ) (m : ℕ) → Puts p q content m → length content ≡ m → n ≡ m → HasRoom o (8 + m) → Puts o q (box kind content) (8 + m)
unfolding box
box-put kind n header content m p l e room = renamed (ap (λ (i : ℕ). box_header kind i ++ content) (e ∙ sym l)) refl (then header (length-header kind n) p l room)
