use Rattle.std.proofs.Common.{◌≡◌, refl, ap, ◌∙◌, subst, length, length-set, arith}
use Rattle.read_channels.specs.Definitions.{definitions_to}
use Rattle.picture_rules.specs.Order.{run_definitions, arranged}
use Rattle.picture_order.specs.Flat.{number_at}
use Rattle.picture_order.specs.Private.Steps.{Agree}
use Rattle.picture_order.proofs.Agreement.{agree-start}
use Rattle.picture_order.proofs.Listing.{agree-more, followed, whole}
use Rattle.picture_order.proofs.run.reorder_within.Goals as goal

pub loop-k-init : goal.loop-k-init
unfolding definitions_to run_definitions
loop-k-init g c = record {
  count = c.start.ensures.count;
  size = refl;
  agree = agree-start c.args.n _ _ c.start.ensures.positions;
}

pub loop-k-preserved : goal.loop-k-preserved
loop-k-preserved g c =
    let a = c.args in
    let l = c.loop-k in
    let e = c.exchange.ensures in
    record {
      count = c.in-Some.ensures.count ∙ l.invariant.count;
      size = ap length c.mark.ensures ∙ simp length-set (e.size ∙ l.invariant.size);
      agree = agree-more a.d.edition2 a.f.now a.d.cdef a.n l.k (number_at (g.E.Element.numbers a.recs.now)) _ _
          (followed _ _ _ c.in-Some.ask (rw (l.invariant.count, c.read_definition-definition.ensures) at c.in-Some.ensures.decided) (omega (arith, c.requires.records, l.invariant.size)) e.exchanged e.size c.mark.ensures _ l.invariant.agree);
    }

pub loop-k-preserved-in_default : goal.loop-k-preserved-in_default
loop-k-preserved-in_default g c =
    let a = c.args in
    let l = c.loop-k in
    record {
      count = c.in_default.ensures.count ∙ l.invariant.count;
      size = l.invariant.size;
      agree = agree-more a.d.edition2 a.f.now a.d.cdef a.n l.k (number_at (g.E.Element.numbers a.recs.now)) _ _
          ((rw (l.invariant.count, c.read_definition-definition.ensures) at c.in_default.ensures.decided) _ _ l.invariant.agree);
    }

pub returns : goal.returns
returns g c =
    let a = c.args in
    let l = c.loop-k in
    let recs = g.E.Element.numbers l.recs in
    let old = g.E.Element.numbers a.recs.now in
    let e : l.k ≡ a.d.cdef.count = omega arith in
    whole a.d.edition2 a.f.now a.d.cdef a.n old recs l.invariant.size c.requires.records
    (subst (λ i. Agree a.n recs l.positions.positions (arranged a.d.edition2 a.n (definitions_to a.f.now a.d.cdef i) (number_at old))) e l.invariant.agree).says
