use native.Mathlib.Omega.{arith}
use mathlib.Core.Path.{refl, ◌∙◌}
use Rattle.std.proofs.lemmas.Result.{err_from_is_err_and}
use Rattle.box_number.proofs.Rows.{row}
use Rattle.read_rules.specs.File.{walk}
use Rattle.read_rules.proofs.Cuts.{file-read}
use Rattle.read_file.proofs.Walking.{going_none, going_header, going_stream, going_short, going_past, going_heads, going_fits, going_less, going_down, going_on, walks}
use Rattle.read_file.proofs.opj_jp2_read_header_procedure.Goals as goal

pub returns-then-s-gt-LARGEST : goal.returns-then-s-gt-LARGEST
unfolding walk
returns-then-s-gt-LARGEST c = file-read _ _ _ (row 0 _ (omega arith) refl)

pub overflow_add-start : goal.overflow_add-start
overflow_add-start c = omega (arith, going_header c.loop-found.invariant c.find_box.ensures c.in-Some.is c.in-Codestream.is, c.loop-found.invariant.room)

pub returns-in-Codestream : goal.returns-in-Codestream
returns-in-Codestream c = let a = c.args in file-read _ _ _ (c.read_stream.ensures ∙ walks a.s.now a.j (omega arith) (going_stream c.loop-found.invariant c.find_box.ensures c.in-Some.is c.in-Codestream.is))

pub returns-in-Short : goal.returns-in-Short
returns-in-Short c = let a = c.args in file-read _ _ _ (walks a.s.now a.j (omega arith) (going_short c.loop-found.invariant c.find_box.ensures c.in-Some.is c.in-Short.is))

pub returns-in-Past : goal.returns-in-Past
returns-in-Past c = let a = c.args in file-read _ _ _ (c.read_past.ensures ∙ walks a.s.now a.j (omega arith) (going_past c.loop-found.invariant c.find_box.ensures c.in-Some.is c.in-Past.is))

pub read_whole-requires : goal.read_whole-requires
read_whole-requires c = going_heads c.loop-found.invariant c.find_box.ensures c.in-Some.is c.in-Whole.is

pub returns-in_err-read_whole-in-Whole : goal.returns-in_err-read_whole-in-Whole
returns-in_err-read_whole-in-Whole c =
    let a = c.args in
    let p = err_from_is_err_and c.from_residual.result c.from_residual.ensures.1 in
    rw (p.1, p.2) (file-read _ _ _ (walks a.s.now a.j (omega arith) (going_down c.loop-found.invariant c.find_box.ensures c.in-Some.is c.in-Whole.is c.in_err-read_whole-in-Whole.ensures)))

pub slice_bounds-rest-start : goal.slice_bounds-rest-start
slice_bounds-rest-start c = omega (arith, going_fits c.loop-found.invariant c.find_box.ensures c.in-Some.is c.in-Whole.is, c.next.ensures)

pub slice_bounds-rest-count : goal.slice_bounds-rest-count
slice_bounds-rest-count c = omega (arith, going_fits c.loop-found.invariant c.find_box.ensures c.in-Some.is c.in-Whole.is, c.next.ensures)

pub overflow_cast-at : goal.overflow_cast-at
overflow_cast-at c = omega (arith, going_fits c.loop-found.invariant c.find_box.ensures c.in-Some.is c.in-Whole.is, c.next-at.ensures, c.loop-found.invariant.room)

pub loop-found-smaller : goal.loop-found-smaller
loop-found-smaller c = going_less c.loop-found.invariant c.find_box.ensures c.in-Some.is c.in-Whole.is c.next.ensures

pub loop-found-preserved : goal.loop-found-preserved
loop-found-preserved c = going_on c.loop-found.invariant c.find_box.ensures c.in-Some.is c.in-Whole.is c.in_ok-read_whole-in-Whole.ensures c.next.ensures c.next-at.ensures

pub returns : goal.returns
returns c = let a = c.args in file-read _ _ _ (walks a.s.now a.j (omega arith) (going_none c.loop-found.invariant c.find_box.ensures c.in_default.is))
