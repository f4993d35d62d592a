use Prim.Native.Nat.{◌+◌}
use native.Mathlib.Nat.{zero-add}
use native.Mathlib.Omega.{arith}
use mathlib.Core.Path.{◌≡◌, refl, sym, ap, ◌∙◌}
use lib.ListN.{length}
use Rattle.box_number.specs.Number.{number}
use Rattle.read_palette.specs.Pclr.{entry_bytes, row_bytes}
use Rattle.read_palette.proofs.Entries.{entry-most, row-most, row_next}
use Rattle.picture_finish.proofs.ColumnsOf.{columns-few, column-is}
use Rattle.picture_finish.proofs.Rooms.{channels-most}
use Rattle.picture_finish.proofs.Packs.{packable, packed_none, packed-records, packed-planes, packed-most, packed-next, packed_all}
use Rattle.picture_finish.proofs.Passed.opj_jp2_apply_pclr.Goals as goal

pub loop-c-init : goal.loop-c-init
unfolding row_bytes
loop-c-init c = let a = c.args in
    let o = a.self.now in
    record { place = omega arith; packed = packed_none o.f.now o.m o.lent.now a.records.now a.planes.now }

pub overflow_cast-k : goal.overflow_cast-k
overflow_cast-k c = let a = c.args in
    let o = a.self.now in
    let l = c.loop-c in
    omega (arith, l.invariant.place, row-most c.part-s.result.now 0 l.c, columns-few o.f.now o.m.lists.pclr o.tested.file.0, channels-most o.f.now o.m o.lent.now o.tested, c.requires.all)

pub overflow_cast-k-in-loop-c : goal.overflow_cast-k-in-loop-c
overflow_cast-k-in-loop-c c = let a = c.args in
    let o = a.self.now in
    omega (arith, c.row_bytes-row.ensures, row-most c.part-s.result.now 0 o.m.lists.pclr.columns, columns-few o.f.now o.m.lists.pclr o.tested.file.0)

pub overflow_cast-k-in-loop-c-2 : goal.overflow_cast-k-in-loop-c-2
overflow_cast-k-in-loop-c-2 c = omega (arith, c.entry_bytes-wide.ensures, entry-most c.read_u8.result)

pub pack_channel-at-requires : goal.pack_channel-at-requires
pack_channel-at-requires c = let a = c.args in
    let o = a.self.now in
    let l = c.loop-c in
    let t = o.tested in
    let g = o.flags in
    let y = c.requires in
    let p = l.invariant.packed in
    let k = column-is o.f.now o.m.lists.pclr l.c c.part-s.ensures l.invariant.place c.row_bytes-row.ensures c.read_u8.ensures c.entry_bytes-wide.ensures in
    let rs = packed-records o.f.now o.m o.lent.now a.records.now a.planes.now o.checked.corrected g t o.checked.channels y p (omega arith) in
    let ps = packed-planes o.f.now o.m o.lent.now a.records.now a.planes.now o.checked.corrected g t o.checked.channels y p (omega arith) in
    record {
      numbers_each_in_bounds = (omega (arith, y.record_room), packed-most o.f.now o.m o.lent.now a.records.now a.planes.now o.checked.corrected g t o.checked.channels y p (omega arith));
      packable = packable o.f.now o.m o.lent.now o.checked.corrected g t o.checked.channels y.all (length l.planes) l.c l.at k (omega arith) p.start (omega (arith, y.sample-room));
    }

pub overflow_add-off : goal.overflow_add-off
overflow_add-off c = let a = c.args in
    let o = a.self.now in
    let l = c.loop-c in
    omega (arith, l.invariant.place, row-most c.part-s.result.now 0 l.c, columns-few o.f.now o.m.lists.pclr o.tested.file.0, channels-most o.f.now o.m o.lent.now o.tested, c.requires.all, c.entry_bytes-wide.ensures, entry-most c.read_u8.result)

pub loop-c-preserved : goal.loop-c-preserved
loop-c-preserved c = let a = c.args in
    let o = a.self.now in
    let l = c.loop-c in
    let s = c.part-s.result.now in
    let e = c.pack_channel-at.ensures in
    let k = column-is o.f.now o.m.lists.pclr l.c c.part-s.ensures l.invariant.place c.row_bytes-row.ensures c.read_u8.ensures c.entry_bytes-wide.ensures in
    let w : c.entry_bytes-wide.result ≡ entry_bytes (number s (0 + l.c) 1) = c.entry_bytes-wide.ensures ∙ ap entry_bytes (c.read_u8.ensures ∙ ap (λ x. number s x 1) (sym (zero-add l.c))) in
    let more = row_next s 0 l.c refl w in
    record {
      place = omega (arith, more, l.invariant.place);
      packed = packed-next o.f.now o.m o.lent.now a.records.now a.planes.now o.checked.corrected o.flags o.tested o.checked.channels c.requires l.invariant.packed (omega arith) e.value c.part-s.ensures k e.records_after e.planes_after;
    }

pub returns : goal.returns
returns c = let a = c.args in
    let o = a.self.now in
    let p = packed_all o.f.now o.m o.lent.now a.records.now a.planes.now c.requires.all (omega arith) c.loop-c.invariant.packed in
    record { records_after = p.0; planes_after = p.1 }
