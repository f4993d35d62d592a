-- The picture that is made, in front of anything: each channel fills its plane, and a colour's channel the plane of its colour.
-- Assumes nothing.
use Prim.Native.Nat.{ℕ, suc, ◌+◌, ◌-◌, ◌*◌, ◌≤◌, ◌<◌}
use mathlib.Core.Path.{◌≡◌, refl, sym, ap, ap₂, subst, ◌∙◌}
use mathlib.Core.Bool.{false}
use mathlib.Core.List.{List, ◌++◌}
use native.Mathlib.Nat.{add_assoc, mul-le-mul_right}
use native.Mathlib.Omega.{arith}
use lib.IntN.{ℤ, pos}
use lib.ListN.{length, get_or, length-append, get_or-append}
use Rattle.box_number.specs.Table.{Test, ◌=?◌}
use Rattle.box_number.specs.Lowest.{lowest}
use Rattle.box_number.proofs.Rows.{Says, row}
use Rattle.read_record.specs.declared.Jp2.{Jp2}
use Rattle.read_channels.specs.Cdef.{Cn}
use Rattle.read_channels.specs.Definitions.{Def, definition, definitions_to, definitions}
use Rattle.picture_rules.specs.Definitions.{Colour, misnames}
use Rattle.picture_rules.specs.Order.{run_definitions, arranged}
use Rattle.picture_rules.specs.Flat.{flat}
use Rattle.picture_rules.specs.Rules.{Paired, OrderPairs, ColourLands, definition_at, LastFor, OrderMarks}
use Rattle.picture_rules.specs.Image.{Image, image, component, width, height, first, mark, no_data, index_of, sample_at}
use Rattle.picture_rules.specs.Channels.{channels, component_of}
use Rattle.picture_rules.specs.Samples.{value_of, packed, start_of}
use Rattle.picture_rules.specs.Finish.{outside_lists, expanded, picture}
use Rattle.picture_rules.specs.Handed.{EditionTwo}
use Rattle.picture_rules.specs.Words.{Handed, Clear, Fills}
use Rattle.picture_rules.specs.OwnMark.{LastOf, OwnMark}
use Rattle.picture_rules.specs.PictureRule.{FilledPlanes, RightPlanes}
use Rattle.picture_rules.specs.EveryPicture.{EveryPlane}
use Rattle.box_number.proofs.Indices.{decide, lowest-most, lowest-passes}
use Rattle.picture_rules.proofs.Flats.{flat-length, flat-at}
use Rattle.picture_rules.proofs.Packs.{start-more, size-some, packed-inside, packed-at}
use Rattle.picture_rules.proofs.Checks.{from-counted, Checked, made}
use Rattle.picture_rules.proofs.Listed.{occurs, listed-length, listed_at, last-named}
use Rattle.picture_rules.proofs.Mappings.{Kept, component-within}

-- what a channel's record takes from its component
module _ (f : List ℕ) (m : Jp2) (i : Image) (c : ℕ) where
  expanded-width : expanded f m i c 2 ≡ width i (component_of f m c)
  unfolding expanded
  expanded-width = sym (row 3 _ (omega arith) refl)

  expanded-height : expanded f m i c 3 ≡ height i (component_of f m c)
  unfolding expanded
  expanded-height = sym (row 3 _ (omega arith) refl)

  expanded-mark : expanded f m i c 12 ≡ mark i (component_of f m c)
  unfolding expanded
  expanded-mark = sym (row 3 _ (omega arith) refl)

  expanded-none : first i (component_of f m c) ≡ no_data → expanded f m i c 11 ≡ no_data
  unfolding expanded
  expanded-none e = sym (row 3 _ ((λ _. omega arith), ((λ _. omega arith), ((λ h. absurd (h e)), tt))) (sym e))

  expanded-start : (first i (component_of f m c) ≡ no_data → ⊥) → expanded f m i c 11 ≡ start_of f m i c
  unfolding expanded
  expanded-start h = sym (row 2 _ ((λ _. omega arith), ((λ _. omega arith), (h, refl))) refl)

-- a sample by its index within its plane
at_index : (samples : List ℤ) (start w y x : ℕ) → get_or samples (index_of start w y x) (pos 0) ≡ get_or samples (start + (y * w + x)) (pos 0)
at_index samples start w y x = ap (λ k. get_or samples k (pos 0)) (add_assoc start (y * w) x)

-- the picture that is made of the inputs, with any numbers behind its records and any samples behind its own
module _ (h : Handed) (m : Jp2) (numbers : List ℕ) (samples : List ℤ) (pairs : OrderPairs) where
  abbrev f : List ℕ
  f = h.file

  abbrev i : Image
  i = h.image

  abbrev n : ℕ
  n = channels m i.count

  abbrev planes : Image
  planes = image ((made h m).components ++ numbers) (made h m).count ((made h m).samples ++ samples)

  abbrev ds : List Def
  ds = definitions f m.lists.cdef

  abbrev edition2 : ℕ
  edition2 = h.settings.edition2

  abbrev paired : Paired edition2 n ds (expanded f m i)
  paired = pairs edition2 n ds (expanded f m i)

  abbrev to : ℕ → ℕ
  to = paired.pairing.to

  -- number k of channel c's plane
  plane-number : (c k : ℕ) → c < n → k < 12 → component planes (to c) k ≡ expanded f m i c k
  unfolding picture
  plane-number c k l b =
      let records = (arranged edition2 n ds (expanded f m i)).records in
      let below = paired.pairing.to_below c l in
      get_or-append (flat records (13 * n)) numbers 0 (13 * to c + k) (omega (arith, flat-length records (13 * n)))
      ∙ flat-at records n (to c) k below (omega arith) ∙ paired.stands c k l b

  -- the mark of channel c's plane
  plane-mark : (c : ℕ) → c < n → let a = arranged edition2 n ds (expanded f m i) in mark planes (to c) ≡ a.records (a.seat c) 12
  unfolding picture
  plane-mark c l =
      let records = (arranged edition2 n ds (expanded f m i)).records in
      let below = paired.pairing.to_below c l in
      get_or-append (flat records (13 * n)) numbers 0 (13 * to c + 12) (omega (arith, flat-length records (13 * n)))
      ∙ flat-at records n (to c) 12 below (omega arith) ∙ ap (λ p. records p 12) (sym (paired.seats c l))

  -- where every check passes
  module _ (checked : Checked h m) (inside : Says false (outside_lists i)) (k : Kept m) where
    module _ (c : ℕ) (l : c < n) where
      abbrev r : ℕ
      r = component_of f m c

      wide : width planes (to c) ≡ width i r
      wide = plane-number c 2 l (omega arith) ∙ expanded-width f m i c

      high : height planes (to c) ≡ height i r
      high = plane-number c 3 l (omega arith) ∙ expanded-height f m i c

      start : (first i r ≡ no_data → ⊥) → first planes (to c) ≡ start_of f m i c
      start some = plane-number c 11 l (omega arith) ∙ expanded-start f m i c some

      sample : (first i r ≡ no_data → ⊥) → (y x : ℕ) → y < height i r → x < width i r → sample_at planes (to c) y x ≡ value_of f m i.count c (sample_at i r y x)
      unfolding picture
      sample some y x a b =
          ap₂ (λ s w. get_or (packed f m i n ++ samples) (index_of s w y x) (pos 0)) (start some) wide ∙ at_index (packed f m i n ++ samples) (start_of f m i c) (width i r) y x
          ∙ packed-at f m i n (λ c l. component-within h m k checked c l inside) samples c (y * width i r + x) (pos 0) l some (omega (arith, mul-le-mul_right (width i r) a))
          ∙ ap (value_of f m i.count c) (sym (at_index i.samples (first i r) (width i r) y x))

      inside-list : (first i r ≡ no_data → ⊥) → first planes (to c) + height planes (to c) * width planes (to c) ≤ length planes.samples
      unfolding picture
      inside-list some =
          rw (start some, high, wide, length-append)
          (omega (arith, packed-inside f m i n (λ c l. component-within h m k checked c l inside) c l, size-some i r some))

      fills : Fills h m planes c (to c)
      fills =
          record {
            wide = wide;
            high = high;
            empty = λ e. plane-number c 11 l (omega arith) ∙ expanded-none f m i c e;
            empty_only = λ e. decide (first i r =? no_data) (λ z. z) (λ some. omega (arith, start some, checked.most, start-more f m i c n (omega arith)));
            inside = λ some. omega (arith, inside-list some);
            sample = λ some y x a b. sample some y x (omega (arith, high)) (omega (arith, wide));
          }

    -- the samples of a channel come before those of every later one
    samples-apart :
        (c d : ℕ) → c < d → d < n → (first i (component_of f m c) ≡ no_data → ⊥) → (first i (component_of f m d) ≡ no_data → ⊥) →
        first planes (to c) + height planes (to c) * width planes (to c) ≤ first planes (to d)
    unfolding start_of
    samples-apart c d l b some other =
        let a : c < n = omega arith in
        rw (start c a some, start d b other, high c a, wide c a) (omega (arith, start-more f m i (suc c) d l, size-some i (component_of f m c) some))

    -- no definition moves a channel
    in_order : m.lists.cdef.count ≡ 0 → (c : ℕ) → c < n → to c ≡ c
    unfolding definitions_to run_definitions
    in_order e c l = sym (paired.seats c l) ∙ ap (λ count. (arranged edition2 n (definitions_to f m.lists.cdef count) (expanded f m i)).seat c) e

    colours :
        ColourLands → Clear h m → (j : ℕ) → j < m.lists.cdef.count → Colour (definition f m.lists.cdef j) →
        to (definition f m.lists.cdef j).channel ≡ (definition f m.lists.cdef j).asoc - 1
    colours lands clear j l colour =
        let d = definition f m.lists.cdef j in
        let below : d.channel < n = omega (arith, (checked.named j l).0) in
        let within : d.asoc ≤ n = (checked.named j l).1 (λ z. omega arith) (λ z. omega arith) in
        sym (paired.seats d.channel below) ∙ lands edition2 n ds (expanded f m i) clear d (occurs f m.lists.cdef m.lists.cdef.count j l) colour below within

    -- where 25 passes no definition is passed over, so the last definition of a channel is the last that counts
    last_for : (c j : ℕ) → LastOf h m c j → LastFor n ds c j
    last_for c j w =
        let l = m.lists.cdef in
        let at : (i : ℕ) → i < l.count → definition_at ds i ≡ definition f l i = listed_at f l l.count in
        record {
          below = omega (arith, listed-length f l l.count, w.below);
          names = ap (λ (d : Def). d.channel) (at j w.below) ∙ w.names;
          counts = subst (λ d. Says false (misnames n d)) (sym (at j w.below)) (checked.named j w.below);
          last = λ i after b named.
              let inside : i < l.count = omega (arith, listed-length f l l.count) in
              absurd (w.last i after inside (ap (λ (d : Def). d.channel) (sym (at i inside)) ∙ named));
        }

    -- in edition 2 each channel has a last definition, where there are definitions
    has_last : EditionTwo h.settings → (c : ℕ) → c < n → 0 < m.lists.cdef.count → (j : ℕ) × LastOf h m c j
    has_last second c l some =
        let cdef = m.lists.cdef in
        let t : ℕ → Test = λ j. Cn f cdef j =? c in
        let found : lowest t cdef.count < cdef.count =
        omega (arith, lowest-most t cdef.count, checked.defined c l (λ z. omega arith) (from-counted edition2 c (λ first. absurd (second first)))) in
        let (j, r) = last-named f cdef cdef.count c (lowest t cdef.count) found (lowest-passes t cdef.count found) in
        (j, record { below = r.below; names = r.names; last = r.last })

    marks : OrderMarks → EditionTwo h.settings → (c : ℕ) → c < n → OwnMark h m planes c (to c)
    unfolding definitions_to
    marks own second c l =
        record {
          from-definition = λ some.
              let (j, w) = has_last second c l some in
              (j, w, plane-mark c l ∙ own.last edition2 n ds (expanded f m i) second c j (last_for c j w) ∙ ap (λ (d : Def). d.typ) (listed_at f m.lists.cdef m.lists.cdef.count j w.below));
          from-component = λ none.
              plane-mark c l ∙ own.kept edition2 n ds (expanded f m i) second c (λ j b. absurd (omega (arith, listed-length f m.lists.cdef m.lists.cdef.count)))
              ∙ expanded-mark f m i c;
        }

    module _ (own : OrderMarks) where
      abbrev filled : FilledPlanes h m planes
      unfolding picture
      filled = record { all-planes = refl; pairing = paired.pairing; fills = fills; apart = λ c d l b some other. omega (arith, samples-apart c d l b some other); marks = marks own }

      pub right : ColourLands → Clear h m → RightPlanes h m planes
      unfolding picture
      right lands clear = record { filled = filled; colours = colours lands clear }

      pub every : EveryPlane h m planes
      unfolding picture
      every = record { filled = filled; in_order = in_order }
