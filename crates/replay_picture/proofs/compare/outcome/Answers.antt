use Rattle.std.proofs.Common.{ℕ, Some, sym, ap, ◌∙◌, length, of_z}
use Rattle.std.specs.Int.{w32}
use borrow.Author.Tests.{eqb-true, eqb-false}
use Rattle.box_number.proofs.Rows.{row}
use Rattle.replay_picture.specs.Private.Listed.{numbers_of, records_of, planes_of}
use Rattle.replay_picture.specs.Private.Compared.{answer_differs, element_differs, count_of}
use Rattle.replay_picture.proofs.First.{first-some, first-none}
use Rattle.replay_picture.proofs.compare.outcome.Goals as goal

pub returns-then-is_empty : goal.returns-then-is_empty
unfolding count_of
returns-then-is_empty g c = row 0 _ (eqb-true _ _ (sym c.is_empty.ensures ∙ c.if-is_empty.true)) c.differs.ensures

pub returns-in-Some : goal.returns-in-Some
unfolding count_of
returns-in-Some g c =
    let a = c.args in
    let z = eqb-false _ _ (sym c.is_empty.ensures ∙ c.if-is_empty.false) in
    row 1 _ (z, first-some (answer_differs a.picture.now a.answer.now) 4 _ _ c.first_number.ensures c.in-Some.is) c.differs-in-Some.ensures

pub returns-in-Some-first_element : goal.returns-in-Some-first_element
unfolding count_of
returns-in-Some-first_element g c =
    let a = c.args in
    let z = eqb-false _ _ (sym c.is_empty.ensures ∙ c.if-is_empty.false) in
    let n = first-none (answer_differs a.picture.now a.answer.now) 4 _ c.first_number.ensures c.in_default.is in
    let r = first-some (element_differs (λ (m : ℕ). m) (records_of a.picture.now) a.records.now) (length a.records.now) _ _ (rw c.records.ensures at c.first_element.ensures) c.in-Some-first_element.is in
    row 2 _ (z, (n, r)) c.differs-in-Some-first_element.ensures

pub returns-in-Some-first_element-2 : goal.returns-in-Some-first_element-2
unfolding count_of
returns-in-Some-first_element-2 g c =
    let a = c.args in
    let z = eqb-false _ _ (sym c.is_empty.ensures ∙ c.if-is_empty.false) in
    let n = first-none (answer_differs a.picture.now a.answer.now) 4 _ c.first_number.ensures c.in_default.is in
    let r = first-none (element_differs (λ (m : ℕ). m) (records_of a.picture.now) a.records.now) (length a.records.now) _ (rw c.records.ensures at c.first_element.ensures) c.in_default-first_element.is in
    let s = first-some (element_differs (of_z w32) (numbers_of (planes_of a.picture.now)) a.planes.now) (length a.planes.now) _ _ (rw (c.numbers.ensures, c.planes.ensures) at c.first_element-2.ensures) c.in-Some-first_element-2.is in
    row 3 _ (z, (n, (r, s))) c.differs-in-Some-first_element-2.ensures

pub returns : goal.returns
unfolding count_of
returns g c =
    let a = c.args in
    let z = eqb-false _ _ (sym c.is_empty.ensures ∙ c.if-is_empty.false) in
    let n = first-none (answer_differs a.picture.now a.answer.now) 4 _ c.first_number.ensures c.in_default.is in
    let r = first-none (element_differs (λ (m : ℕ). m) (records_of a.picture.now) a.records.now) (length a.records.now) _ (rw c.records.ensures at c.first_element.ensures) c.in_default-first_element.is in
    let s = first-none (element_differs (of_z w32) (numbers_of (planes_of a.picture.now)) a.planes.now) (length a.planes.now) _ (rw (c.numbers.ensures, c.planes.ensures) at c.first_element-2.ensures) c.in_default-first_element-2.is in
    row 4 _ (z, (n, (r, (s, tt)))) (ap (λ (m : ℕ). Some m) c.at.ensures)
