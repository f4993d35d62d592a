use Prim.Native.Nat.{ℕ, ◌*◌, ◌%◌, ◌<◌}
use native.Mathlib.Omega.{arith}
use mathlib.Core.Path.{◌≡◌, sym, ap, ◌∙◌}
use lib.ListN.{length, get_or}
use lib.Seq.{take_all}
use Rattle.box_number.specs.Number.{placed}
use Rattle.box_number.proofs.Placing.{placing_more, placing_all}
use Rattle.picture_rules.specs.Image.{Image}
use Rattle.picture_rules.specs.Finish.{expanded_from}
use Rattle.picture_rules.proofs.Flats.{flat-length, flat-number}
use Rattle.picture_finish.specs.Private.Parts.{record_at}
use Rattle.picture_finish.proofs.Passed.pack_record.Goals as goal

module _ (b mappings : ℕ) (i : Image) (r start : ℕ) where
  thirteen : length (record_at b mappings i r start) ≡ 13
  thirteen = flat-length _ 13

  number_at : (k : ℕ) → k < 13 → expanded_from b mappings i r start k ≡ get_or (record_at b mappings i r start) k 0
  number_at k h =
      let e : k % 13 ≡ k = omega arith in
      sym (flat-number _ 13 k h ∙ ap (expanded_from b mappings i r start) e)

pub loop-k-preserved : goal.loop-k-preserved
loop-k-preserved c = let a = c.args in
    let o = a.self.now in
    let l = c.loop-k in
    placing_more a.records.now (13 * a.c) (record_at a.b o.m.lists.cmap.count o.lent.now a.r a.start) l.records l.k 0 _ l.invariant (omega arith)
    (omega (arith, thirteen a.b o.m.lists.cmap.count o.lent.now a.r a.start))
    (c.expanded_number.ensures ∙ number_at a.b o.m.lists.cmap.count o.lent.now a.r a.start l.k (omega arith))

pub returns : goal.returns
returns c = let a = c.args in
    let o = a.self.now in
    let l = c.loop-k in
    let s = record_at a.b o.m.lists.cmap.count o.lent.now a.r a.start in
    let e : length s ≡ 13 = thirteen a.b o.m.lists.cmap.count o.lent.now a.r a.start in
    placing_all a.records.now (13 * a.c) s l.records l.k 13 l.invariant (omega arith) (omega arith) ∙ ap (placed a.records.now (13 * a.c)) (take_all 13 s (omega arith))
