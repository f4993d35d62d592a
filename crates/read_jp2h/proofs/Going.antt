-- The loop over the boxes: what is left to split and read answers what the whole does.
-- Assumes nothing.
use Prim.Native.Nat.{ℕ, zero, suc, ◌+◌, ◌-◌, ◌≤◌, ◌<◌}
use native.Mathlib.Omega.{arith}
use mathlib.Core.Path.{◌≡◌, refl, sym, ap, subst, ◌∙◌}
use mathlib.Core.Bool.{Bool, true, false, not, ◌&&◌}
use mathlib.Core.List.{List}
use lib.ListN.{length, take, drop, length-drop}
use lib.Seq.{take_all}
use Rattle.box_number.specs.Number.{part}
use Rattle.box_number.specs.Table.{holds, pick}
use Rattle.box_number.proofs.Numbers.{rest-is}
use Rattle.box_kind.specs.Kind.{kind_of, ◌is◌}
use Rattle.box_header.specs.Box.{largest, TBox, box_length}
use Rattle.box_kind.specs.declared.Jp2BoxType.{Jp2BoxType}
use Rattle.box_kind.specs.declared.Jp2BoxType.TheVariants.{IHDR}
use Rattle.box_header.proofs.Headers.{header-least}
use Rattle.read_record.specs.declared.Jp2.{Jp2}
use Rattle.std.specs.Prelude.{Option, Some, None}
use Rattle.box_refusal.specs.Told.{Told}
use Rattle.read_record.specs.Answer.{Result, accepted, refused}
use Rattle.read_jp2h.specs.declared.Item.{Item}
use Rattle.read_jp2h.specs.Split.{split}
use Rattle.read_jp2h.specs.Child.{reader}
use Rattle.read_jp2h.specs.Jp2h.{read_all, lacks_ihdr}
use Rattle.read_jp2h.specs.Private.Step.{fault, lone_item, first_item, next, read_item}
use Rattle.read_jp2h.proofs.Faults.{next-tells, sound, split-none, split-more, split-fault}

-- what is left, a box that is alone or the boxes of c, is read to w; l is whether an ihdr lacks then
abbrev Left : Bool → Jp2BoxType → ℕ → Result → Bool → ℕ → ℕ → List ℕ → Bool → Jp2 → Type 0
Left true kind place w l fuel at c lacks k = (reader kind place at c k ≡ w) × (lacks ≡ false) × (l ≡ false)
Left false kind place w l fuel at c lacks k = (read_all (split fuel at c) k ≡ w) × ((lacks_ihdr (split fuel at c) && lacks) ≡ l)

pub record Going (kind : Jp2BoxType) (place : ℕ) (w : Result) (l lone : Bool) (at : ℕ) (c : List ℕ) (lacks : Bool) (k : Jp2) : Type 0 where
  pub fuel : ℕ
  pub enough : length c ≤ fuel
  pub room : at + length c ≤ largest
  pub left : Left lone kind place w l fuel at c lacks k

-- a box that was found lies in c, and its reader's answer decides the whole
pub record Here (kind : Jp2BoxType) (place : ℕ) (w : Result) (l : Bool) (at : ℕ) (c : List ℕ) (lacks : Bool) (k : Jp2) (b : Item) : Type 0 where
  pub head : b.header.header_length ≤ b.header.length
  pub size : b.header.length ≤ length c
  pub stop : {n p : ℕ} → read_item b at c k ≡ refused n p → w ≡ refused n p
  pub on : {m : Jp2} {lack : Bool} → read_item b at c k ≡ accepted m → lack ≡ (not (holds (b.header.ty is IHDR)) && lacks) → Going kind place w l false (at + b.header.length) (drop b.header.length c) lack m

-- the turns that are left are bounded by this
abbrev pub turns : Bool → List ℕ → ℕ
turns lone c = pick lone 1 0 + length c

and_no : (b : Bool) → (b && false) ≡ false
and_no true = refl
and_no false = refl

and_swap : (a b d : Bool) → ((a && b) && d) ≡ (b && (a && d))
and_swap false true d = refl
and_swap false false d = refl
and_swap true b d = refl

part-all : (c : List ℕ) → part c 0 (length c) ≡ c
unfolding part
part-all c = take_all (length c - 0) c (omega arith)

-- an answer that is accepted, and one that has no box
abbrev Accepts : {A : Type 0} → Told A → Type 0
Accepts (accepted a) = Unit
Accepts (refused n p) = ⊥

abbrev NoItem : Told (Option Item) → Type 0
NoItem (accepted None) = Unit
NoItem (accepted (Some b)) = ⊥
NoItem (refused n p) = ⊥

-- the box that was found
abbrev item_or : Item → Told (Option Item) → Item
item_or d (accepted None) = d
item_or d (accepted (Some b)) = b
item_or d (refused n p) = d

item-is : {b d : Item} → ◌≡◌ {A = Told (Option Item)} (accepted (Some b)) (accepted (Some d)) → b ≡ d
item-is {b} e = ap (item_or b) e

module _ {kind : Jp2BoxType} {place : ℕ} {w : Result} {l : Bool} {at : ℕ} {c : List ℕ} {lacks : Bool} {k : Jp2} where
  pub going_end : (lone : Bool) → Going kind place w l lone at c lacks k → accepted None ≡ next lone kind place at c → (w ≡ accepted k) × (l ≡ lacks)
  unfolding read_all lacks_ihdr
  going_end true g e = absurd (subst NoItem e tt)
  going_end false g e = let z = next-tells at c e in (sym g.left.0 ∙ rw (split-none at c g.fuel z), sym g.left.1 ∙ rw (split-none at c g.fuel z))

  -- with one more of the fuel
  with-fuel : {lone : Bool} → 0 < length c → (g : Going kind place w l lone at c lacks k) → (P : ℕ → Type 0) → ((n : ℕ) → P (suc n)) → P g.fuel
  with-fuel some g P h = go g.fuel g.enough
    where
      go : (n : ℕ) → length c ≤ n → P n
      go zero l = absurd (omega arith)
      go (suc n) l = h n

  pub going_fault : (lone : Bool) → Going kind place w l lone at c lacks k → {n p : ℕ} → refused n p ≡ next lone kind place at c → refused n p ≡ w
  going_fault true g e = absurd (subst Accepts (sym e) tt)
  going_fault false g {n} {p} e =
      let t = next-tells at c e in
      with-fuel t.0 g (λ (m : ℕ). read_all (split m at c) k ≡ w → refused n p ≡ w) (λ m s. rw (t.1, t.2) (sym (split-fault at c m k t.0 t.3) ∙ s)) g.left.0

  here_lone : Going kind place w l true at c lacks k → Here kind place w l at c lacks k (lone_item kind place c)
  unfolding split read_all lacks_ihdr
  here_lone g =
      record {
        head = omega arith;
        size = omega arith;
        stop = λ e. sym g.left.0 ∙ whole e;
        on = λ {m} {lack} e h.
            record {
              fuel = 0;
              enough = rw length-drop (omega arith);
              room = rw length-drop (omega (arith, g.room));
              left = (sym (whole e) ∙ g.left.0, h ∙ rw (g.left.1, g.left.2) (and_no (not (holds (kind is IHDR)))));
            };
      }
    where
      whole : {r : Result} → read_item (lone_item kind place c) at c k ≡ r → reader kind place at c k ≡ r
      whole e = let z : at + 0 ≡ at = omega arith in rw (z, part-all c) at e

  here-child : 0 < length c → fault c ≡ 0 → Going kind place w l false at c lacks k → Here kind place w l at c lacks k (first_item at c)
  unfolding read_all lacks_ihdr
  here-child some z g =
      let q = sound c z in
      record {
        head = omega (arith, q.least);
        size = omega (arith, q.most);
        stop = λ {n} {p} e. with-fuel some g (λ (m : ℕ). read_all (split m at c) k ≡ w → w ≡ refused n p) (λ m s. sym s ∙ rw (split-more at c m some z, e)) g.left.0;
        on = λ {m} {lack} e h. with-fuel some g (λ (n : ℕ). length c ≤ n → read_all (split n at c) k ≡ w → (lacks_ihdr (split n at c) && lacks) ≡ l → Going kind place w l false (at + box_length c) (drop (box_length c) c) lack m) (λ n b s t.
            record {
              fuel = n;
              enough = rw length-drop (omega (arith, header-least c, q.least));
              room = rw length-drop (omega (arith, g.room, q.most));
              left = (rw (split-more at c n some z, e) at s, rw h (sym (and_swap (not (holds (kind_of (TBox c) is IHDR))) (lacks_ihdr (split n (at + box_length c) (drop (box_length c) c))) lacks) ∙ rw (split-more at c n some z) at t));
            }) g.enough g.left.0 g.left.1;
      }

  pub here : (lone : Bool) → Going kind place w l lone at c lacks k → {b : Item} → accepted (Some b) ≡ next lone kind place at c → Here kind place w l at c lacks k b
  here true g {b} e = subst (Here kind place w l at c lacks k) (sym (item-is e)) (here_lone g)
  here false g e = let t = next-tells at c e in subst (Here kind place w l at c lacks k) (sym t.1) (here-child t.0 t.2 g)

  -- n is how far the next box is from this one
  pub going_less : (lone : Bool) → Going kind place w l lone at c lacks k → {b : Item} {n : ℕ} → accepted (Some b) ≡ next lone kind place at c → n ≡ 0 + b.header.length → turns false (take (length c - n) (drop n c)) < turns lone c
  going_less true g {b} {n} e h =
      let z : length c ≡ b.header.length = ap (λ (x : Item). x.header.length) (sym (item-is e)) in
      rw (rest-is c n, length-drop) (omega arith)
  going_less false g {b} {n} e h =
      let t = next-tells at c e in
      let z : b.header.length ≡ box_length c = ap (λ (x : Item). x.header.length) t.1 in
      rw (rest-is c n, length-drop) (omega (arith, header-least c, (sound c t.2).least))

  module _ {b : Item} (h : Here kind place w l at c lacks k b) where
    pub going_stop : {n p : ℕ} → refused n p ≡ read_item b at c k → refused n p ≡ w
    going_stop e = sym (h.stop (sym e))

    pub going_on : {m : Jp2} {lack : Bool} {n i : ℕ} → accepted m ≡ read_item b at c k → n ≡ 0 + b.header.length → i ≡ at + b.header.length → lack ≡ (not (holds (b.header.ty is IHDR)) && lacks)
        → Going kind place w l false i (take (length c - n) (drop n c)) lack m
    going_on {m} {lack} {n} {i} e u p q =
        let z : n ≡ b.header.length = omega arith in
        rw (rest-is c n, z, p) (h.on (sym e) q)
