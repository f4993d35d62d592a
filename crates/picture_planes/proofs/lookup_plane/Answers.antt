use Rattle.std.proofs.Common.{◌≡◌, ◌+◌, ◌-◌, false, map, take, drop, sym, ap, ◌∙◌, arith}
use Rattle.std.proofs.Math.ListN.{length-take, length-replicate}
use Rattle.box_number.proofs.Rows.{said}
use Rattle.box_number.specs.Table.{table}
use Rattle.picture_planes.specs.Written.{is_written, written_unless}
use Rattle.picture_planes.specs.Column.{no_column, column, picked}
use Rattle.picture_planes.specs.Plane.{samples_of}
use Rattle.picture_planes.specs.Private.Entry.{entry_for}
use Rattle.picture_planes.proofs.Picks.{map_same, looked}
use Rattle.picture_planes.proofs.Planes.{put_placed}
use Rattle.picture_planes.proofs.lookup_plane.Goals as goal

pub returns-clause-dst_after : goal.returns-clause-dst_after
unfolding is_written written_unless table
returns-clause-dst_after c =
    let a = c.args in
    let k = said false (no_column a.k) (sym c.is_refused.ensures ∙ c.if-is_refused.false) in
    let e : c.read.new.out ≡ column a.s.now a.k a.k.entries = c.read.ensures ∙ ap (column a.s.now a.k) (simp (length-take, length-replicate) (omega (arith, k.1.0))) in
    let n : a.from + a.n - a.from ≡ a.n = omega arith in
    let q : c.look_up.new.dst ≡ map (picked a.s.now a.k) (samples_of a.src.now a.from a.n) =
    c.look_up.ensures
    ∙ ap (λ m. map (entry_for c.read.new.out) (take m (drop a.from a.src.now))) n
    ∙ rw e (map_same (looked a.s.now a.k (omega (arith, k.0))) (samples_of a.src.now a.from a.n))
    in
    grind (arith, put_placed)
