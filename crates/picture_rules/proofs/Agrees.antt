-- Two files that agree on palette and mappings: their channels, and all that finishing makes of these, are the same.
-- Assumes nothing.
use Prim.Native.Nat.{ℕ, zero, suc, ◌+◌, ◌-◌, ◌≤◌, ◌<◌}
use mathlib.Core.Path.{◌≡◌, refl, sym, ap, ap₂, fun_ext, ◌∙◌}
use mathlib.Core.Bool.{true, false}
use mathlib.Core.List.{List, ◌++◌}
use native.Mathlib.Omega.{arith}
use lib.IntN.{ℤ}
use lib.ListN.{length}
use Rattle.box_number.specs.Table.{Test, ◌=?◌, ◌<?◌, ◌and◌, otherwise, ◌⇒◌∣◌, table}
use Rattle.box_number.specs.Number.{number}
use Rattle.box_number.proofs.Rows.{Says, row, each}
use Rattle.read_record.specs.declared.Jp2.{Jp2}
use Rattle.read_palette.specs.Pclr.{depth, sign, B, row_bytes}
use Rattle.read_channels.specs.Cmap.{MTYP}
use Rattle.read_rules.specs.Free.{SamePalette, SameMappings}
use Rattle.read_channels.specs.Definitions.{definitions_to, definitions}
use Rattle.picture_rules.specs.Definitions.{Reordered}
use Rattle.picture_rules.specs.Image.{Image}
use Rattle.box_number.specs.Lowest.{lowest}
use Rattle.picture_rules.specs.Channels.{mapped, channels, component_of, type_of}
use Rattle.picture_rules.specs.Samples.{clamped, lookup, value_for, value_of, channel_samples, packed, start_of}
use Rattle.picture_rules.specs.Handed.{Settings}
use Rattle.picture_rules.specs.Finish.{outside_file, counted, expanded}
use Rattle.box_number.proofs.Indices.{decide}
use Rattle.picture_rules.proofs.Mappings.{Kept, channel-cases, mapped-channels, mapped-component, plain-component, plain_type}

-- as to what finishing with a record reads of the file
pub record Agree (f g : List ℕ) (m : Jp2) : Type 0 where
  pub long : length g ≡ length f
  pub palette : SamePalette f g m
  pub mappings : SameMappings f g m
  pub reordered : Reordered (definitions f m.lists.cdef) (definitions g m.lists.cdef)

-- with what the settings leave of the record
pub agree-counted : {f g : List ℕ} {m : Jp2} (s : Settings) → Agree f g m → Agree f g (counted s m)
unfolding counted definitions_to
agree-counted {f} {g} s a =
    each (Agree f g) _ (
      (λ _. a),
      λ _.
          record {
            long = a.long;
            palette = record { bits = λ i l. absurd (omega arith); entry = λ j i h l. absurd (omega arith) };
            mappings = record { component = λ i l. absurd (omega arith); type = λ i l. absurd (omega arith); column = λ i l. absurd (omega arith) };
            reordered = λ d. refl;
          },
    )

lowest-same : (t s : ℕ → Test) (n : ℕ) → ((i : ℕ) → i < n → t i ≡ s i) → lowest t n ≡ lowest s n
unfolding lowest
lowest-same t s zero e = refl
lowest-same t s (suc n) e = rw (lowest-same t s n (λ i l. e i (omega arith)), e n (omega arith))

rows_same : (f g : List ℕ) (at n : ℕ) → ((i : ℕ) → i < n → number g (at + i) 1 ≡ number f (at + i) 1) → row_bytes g at n ≡ row_bytes f at n
unfolding row_bytes
rows_same f g at zero e = refl
rows_same f g at (suc n) e = rw (rows_same f g at n (λ i l. e i (omega arith)), e n (omega arith))

clamped-below : (s : ℤ) (n : ℕ) → 0 < n → clamped s (n - 1) < n
clamped-below s n h = each (λ k. k < n) _ ((λ l. omega arith), λ _. omega arith)

module _ {f g : List ℕ} {m : Jp2} (a : Agree f g m) where
  pub outside-same : Says false (outside_file f m) → Says false (outside_file g m)
  outside-same h = rw (a.long, rows_same f g m.lists.pclr.place m.lists.pclr.columns a.palette.bits) h

  module _ (k : Kept m) (n c : ℕ) (l : c < channels m n) where
    component-same : component_of g m c ≡ component_of f m c
    component-same =
        channel-cases m n c k l
        (λ h b. mapped-component m g c h ∙ a.mappings.component c b ∙ sym (mapped-component m f c h))
        (λ h b. plain-component m g c h ∙ sym (plain-component m f c h))

    direct-same : lowest (λ c. 0 <? c and MTYP g m.lists.cmap c =? 0) m.lists.cmap.count ≡ lowest (λ c. 0 <? c and MTYP f m.lists.cmap c =? 0) m.lists.cmap.count
    direct-same = lowest-same _ _ m.lists.cmap.count (λ i b. ap (λ t. 0 <? i and t =? 0) (a.mappings.type i b))

    type-same : type_of g m n c ≡ type_of f m n c
    unfolding type_of
    type-same =
        channel-cases m n c k l
        (λ h b. ap₂ (λ j t. table (mapped m and n =? 1 and j <? m.lists.cmap.count ⇒ 1 ∣ mapped m ⇒ t ∣ otherwise 0)) direct-same (a.mappings.type c b))
        (λ h b. plain_type m g c n h ∙ sym (plain_type m f c n h))

    -- type 1 is for a channel with a mapping
    typed : type_of f m n c ≡ 1 → Says true (mapped m)
    typed e = decide (mapped m) (λ h. h) (λ h. omega (arith, plain_type m f c n h))

    lookup-same : (s : ℤ) → type_of f m n c ≡ 1 → lookup g m.lists.pclr c s ≡ lookup f m.lists.pclr c s
    unfolding lookup
    lookup-same s e = rw (a.palette.entry (clamped s (m.lists.pclr.entries - 1)) c (clamped-below s _ (k.entries (typed e))) (omega (arith, mapped-channels m n (typed e))))

    value_same : (s : ℤ) → value_of g m n c s ≡ value_of f m n c s
    unfolding value_for value_of
    value_same s = rw type-same (each (λ v. v ≡ value_of f m n c s) _ ((λ e. row 0 _ e (lookup-same s e)), λ e. row 1 _ (e, tt) refl))

  module _ (k : Kept m) (i : Image) where
    channel-same : (c : ℕ) → c < channels m i.count → channel_samples g m i c ≡ channel_samples f m i c
    unfolding channel_samples
    channel-same c l = let v : value_of g m i.count c ≡ value_of f m i.count c = fun_ext (value_same k i.count c l) in rw (v, component-same k i.count c l)

    pub packed-same : (n : ℕ) → n ≤ channels m i.count → packed g m i n ≡ packed f m i n
    unfolding packed
    packed-same zero l = refl
    packed-same (suc n) l = ap₂ ◌++◌ (packed-same n (omega arith)) (channel-same n l)

    pub start-same : (n : ℕ) → n ≤ channels m i.count → start_of g m i n ≡ start_of f m i n
    unfolding start_of
    start-same zero l = refl
    start-same (suc n) l = rw (start-same n (omega arith), component-same k i.count n l)

    pub expanded-same : (c : ℕ) → c < channels m i.count → (j : ℕ) → expanded g m i c j ≡ expanded f m i c j
    unfolding expanded
    expanded-same c l j =
        rw (component-same k i.count c l, start-same c (omega arith))
        (each (λ x. x ≡ expanded f m i c j) _ (
          (λ h. row 0 _ h (ap depth (bits h.0))),
          λ n₀. ((λ h. row 1 _ (n₀, h) (ap sign (bits h.0))), λ n₁. ((λ h. row 2 _ (n₀, (n₁, h)) refl), λ n₂. row 3 _ (n₀, (n₁, (n₂, tt))) refl)),
        ))
      where
        bits : Says true (mapped m) → B g m.lists.pclr c ≡ B f m.lists.pclr c
        bits h = a.palette.bits c (omega (arith, mapped-channels m i.count h))
