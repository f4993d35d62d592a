use native.Mathlib.Omega.{arith}
use Prim.Native.Nat.{ℕ}
use mathlib.Core.List.{List}
use mathlib.Core.Path.{◌≡◌, refl, sym, ap, ◌∙◌}
use Rattle.std.specs.Prelude.{Result, Ok, Err, Some, None}
use Rattle.std.specs.Result.{result_ok}
use Rattle.std.proofs.lemmas.Option.{none-some, same_Some}
use Rattle.box_number.proofs.Rows.{row}
use Rattle.box_kind.specs.Kind.{kind_of, tag}
use Rattle.box_kind.specs.declared.Jp2BoxType.TheVariants.{JP2C}
use Rattle.box_header.specs.Box.{TBox, header}
use Rattle.box_header.specs.declared.NoHeader.{NoHeader}
use Rattle.box_header.specs.declared.Jp2BoxHeader.{Jp2BoxHeader}
use Rattle.box_header.proofs.Headers.{Headed, header-found, header-missing}
use Rattle.read_file.specs.declared.Found.TheVariants.{Codestream, Past, Whole}
use Rattle.read_file.specs.Private.Turn.{found}
use Rattle.read_file.proofs.Turns.{not_stream}
use Rattle.read_file.proofs.find_box.Goals as goal

there : {A E : Type 0} (r : Result A E) {h : A} → Some h ≡ result_ok r → r ≡ Ok h
there (Ok x) {h} e = ap Ok (sym (same_Some h x e))
there (Err x) {h} e = absurd (none-some h (sym e))

missing : {A E : Type 0} (r : Result A E) → None ≡ result_ok r → (h : A) → r ≡ Ok h → ⊥
missing r e h f = none-some h (e ∙ ap result_ok f)

-- the header of the first box, its kind, and that this is not the codestream's
at_front : {s : List ℕ} {r : Result Jp2BoxHeader NoHeader} {h : Jp2BoxHeader} → r ≡ header s → Some h ≡ result_ok r → Headed s h
at_front {s} {r} e f = header-found s e (there r f)

kind-is : {s : List ℕ} {h : Jp2BoxHeader} → Headed s h → h.ty ≡ kind_of (TBox s)
kind-is d = ap (λ (x : Jp2BoxHeader). x.ty) d.is

other_kind : {s : List ℕ} {h : Jp2BoxHeader} → Headed s h → (h.ty ≡ JP2C → ⊥) → tag (kind_of (TBox s)) ≡ tag JP2C → ⊥
other_kind {s} d = not_stream (TBox s) (kind-is d)

pub returns-in_err-h : goal.returns-in_err-h
unfolding found
returns-in_err-h c = rw c.from_residual.ensures (row 0 _ (header-missing c.args.c.now c.from_stream.result c.from_stream.ensures (missing c.from_stream.result c.in_err-h.ensures.value)) refl)

pub returns-in-JP2C : goal.returns-in-JP2C
unfolding found
returns-in-JP2C c = let d = at_front c.from_stream.ensures c.in_ok-h.ensures.value in row 1 _ ((d.whole, d.low), ap tag (sym (kind-is d) ∙ c.in-JP2C.is)) (ap (λ n. Some (Codestream n)) d.head)

pub returns-in_default : goal.returns-in_default
unfolding found
returns-in_default c = let d = at_front c.from_stream.ensures c.in_ok-h.ensures.value in row 2 _ ((d.whole, d.low), (other_kind d c.in_default.not-JP2C, omega arith)) refl

pub returns-in_default-2 : goal.returns-in_default-2
unfolding found
returns-in_default-2 c = let d = at_front c.from_stream.ensures c.in_ok-h.ensures.value in row 3 _ ((d.whole, d.low), (other_kind d c.in_default.not-JP2C, (omega arith, omega arith))) (ap (λ h. Some (Past h)) d.is)

pub returns-in_default-3 : goal.returns-in_default-3
unfolding found
returns-in_default-3 c = let d = at_front c.from_stream.ensures c.in_ok-h.ensures.value in row 4 _ ((d.whole, d.low), (other_kind d c.in_default.not-JP2C, (omega arith, (omega arith, tt)))) (ap (λ h. Some (Whole h)) d.is)
