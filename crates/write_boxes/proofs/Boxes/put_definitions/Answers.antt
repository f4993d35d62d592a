use native.Mathlib.Omega.{arith}
use Prim.Native.Nat.{ℕ, ◌+◌, ◌*◌}
use mathlib.Core.Path.{◌≡◌, ap}
use mathlib.Core.List.{List, ◌++◌}
use native.Mathlib.Numerals.{add-one}
use Rattle.write_rules.specs.Setup.{written_definition}
use Rattle.write_rules.specs.Box.{series}
use Rattle.write_rules.specs.Cdef.{cdef_entry, cdef_entries}
use Rattle.write_rules.proofs.Lengths.{length-cdef_entry, length-cdef_entries}
use Rattle.write_boxes.proofs.Pieces.{none, then, renamed}
use Rattle.write_boxes.proofs.Boxes.put_definitions.Goals as goal

one_more : (comps : List ℕ) (colours c : ℕ) → cdef_entries comps colours c ++ cdef_entry (written_definition comps colours c) ≡ cdef_entries comps colours (c + 1)
unfolding series
one_more comps colours c = rw (add-one c)

pub loop-c-init : goal.loop-c-init
unfolding series
loop-c-init c = none c.args.out.now

pub loop-c-preserved : goal.loop-c-preserved
loop-c-preserved c = let a = c.args.self.now in
    let l = c.loop-c in
    renamed (one_more a.comps.now a.fields.colours l.c) (omega arith)
    (then l.invariant (length-cdef_entries a.comps.now a.fields.colours l.c) c.define.ensures (length-cdef_entry (written_definition a.comps.now a.fields.colours l.c)) (omega (arith, c.requires)))

pub returns : goal.returns
returns c = let a = c.args.self.now in
    let e : c.loop-c.c ≡ a.fields.definitions = omega arith in
    renamed (ap (cdef_entries a.comps.now a.fields.colours) e) (ap (λ n. 6 * n) e) c.loop-c.invariant
