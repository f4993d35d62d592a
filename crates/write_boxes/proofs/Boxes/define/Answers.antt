use Rattle.std.proofs.Common.{◌≡◌, ℕ, List, ◌++◌, refl, ap, arith}
use Rattle.box_number.specs.Number.{bytes}
use Rattle.box_number.proofs.Rows.{row}
use Rattle.write_rules.specs.Setup.{written_definition}
use Rattle.write_rules.specs.Cdef.{cdef_entry}
use Rattle.write_boxes.proofs.Pieces.{renamed}
use Rattle.write_boxes.proofs.Boxes.define.Goals as goal
use Rattle.write_boxes.proofs.Boxes.define.Goals.{then-c-self, else-c-self+then-component-ne0, else-c-self+else-component-ne0}

-- the numbers of a definition, whose type and association were chosen
entry : (c : ℕ) (chosen : ℕ × ℕ) {typ asoc : ℕ} {xs : List ℕ} → chosen ≡ (typ, asoc) → bytes 2 c ++ bytes 2 typ ++ bytes 2 asoc ≡ xs → bytes 2 c ++ bytes 2 chosen.0 ++ bytes 2 chosen.1 ≡ xs
entry c chosen e is = rw e is

pub returns : goal.returns
unfolding written_definition
returns c = let a = c.args in
    renamed (elim c.if-c-self.branch [
      | then-c-self w ↦ entry a.c c.if-c-self.typ w.typ-is (ap (λ d. cdef_entry d) (row 0 _ (omega arith) refl))
      | else-c-self+then-component-ne0 w ↦ entry a.c c.if-c-self.typ w.typ-is (ap (λ d. cdef_entry d) (row 1 _ (omega arith) refl))
      | else-c-self+else-component-ne0 w ↦ entry a.c c.if-c-self.typ w.typ-is (ap (λ d. cdef_entry d) (row 2 _ (omega arith) refl))
    ]) refl c.put.ensures
