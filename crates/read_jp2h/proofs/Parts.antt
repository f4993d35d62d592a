-- What the box of a kind fills: of the record that its reader leaves, all else is as it was.
-- Assumes nothing.
use Prim.Native.Nat.{ℕ}
use mathlib.Core.Path.{◌≡◌, refl, sym, ap, subst, ◌∙◌}
use mathlib.Core.List.{List}
use Rattle.box_number.proofs.Rows.{each}
use Rattle.read_record.specs.declared.Jp2.{Jp2}
use Rattle.read_record.specs.Record.{with_image, with_colour, with_bpcc, with_icc, with_pclr, with_cmap, with_cdef, with_status, status}
use Rattle.read_record.specs.Answer.{Result, accepted, refused}
use Rattle.read_image.specs.Ihdr.{ihdr}
use Rattle.read_image.specs.Bpcc.{bpcc}
use Rattle.read_colour.specs.Colr.{colr}
use Rattle.read_palette.specs.Pclr.{pclr}
use Rattle.read_channels.specs.Cmap.{cmap}
use Rattle.read_channels.specs.Cdef.{cdef}

-- what is put back of a record m
abbrev Put : Type 0
Put = Jp2 → Jp2 → Jp2

abbrev pub put_ihdr : Put
put_ihdr m j = let t = j.status in with_status (status t.state t.imgstate t.hasjp2h m.status.hasihdr) (with_image m.image j)

abbrev pub put_bpcc : Put
put_bpcc m j = with_bpcc m.lists.bpcc j

abbrev pub put_colr : Put
put_colr m j = with_icc m.lists.icc (with_colour m.colour j)

abbrev pub put_pclr : Put
put_pclr m j = with_pclr m.lists.pclr j

abbrev pub put_cmap : Put
put_cmap m j = with_cmap m.lists.cmap j

abbrev pub put_cdef : Put
put_cdef m j = with_cdef m.lists.cdef j

-- an answer fills no more than what is put back
abbrev pub Fills : Put → Jp2 → Result → Type 0
Fills put j (accepted m) = put m j ≡ m
Fills put j (refused number place) = Unit

pub filled : (put : Put) (j : Jp2) {m : Jp2} {r : Result} → Fills put j r → accepted m ≡ r → accepted (put m j) ≡ r
filled put j f e = let p = subst (Fills put j) (sym e) f in ap accepted p ∙ e

-- and where a colour is held nothing is put back
abbrev pub Stays : Jp2 → Result → Type 0
Stays j (accepted m) = (j.colour.held ≡ 0 → ⊥) → j ≡ m
Stays j (refused number place) = Unit

pub stayed : (j : Jp2) {m : Jp2} {r : Result} → Stays j r → (j.colour.held ≡ 0 → ⊥) → accepted m ≡ r → accepted j ≡ r
stayed j f h e = let s = subst (Stays j) (sym e) f in ap accepted (s h) ∙ e

module _ (place start : ℕ) (c : List ℕ) (j : Jp2) where
  pub ihdr-fills : Fills put_ihdr j (ihdr place start c j)
  unfolding ihdr
  ihdr-fills = each (Fills put_ihdr j) _ (λ h. refl, λ h. (λ h. tt, λ h. (λ h. tt, λ h. (λ h. tt, λ h. refl))))

  pub bpcc-fills : Fills put_bpcc j (bpcc place start c j)
  unfolding bpcc
  bpcc-fills = each (Fills put_bpcc j) _ (λ h. tt, λ h. refl)

  pub colr-fills : Fills put_colr j (colr place start c j)
  unfolding colr
  colr-fills = each (Fills put_colr j) _ (λ h. tt, λ h. (λ h. refl, λ h. (λ h. tt, λ h. (λ h. refl, λ h. (λ h. refl, λ h. (λ h. refl, λ h. refl))))))

  pub colr-stays : Stays j (colr place start c j)
  unfolding colr
  colr-stays = each (Stays j) _ (λ h. tt, λ h. (λ h n. refl, λ z. (λ h. tt, λ h. (λ h n. absurd (n z), λ h. (λ h n. absurd (n z), λ h. (λ h n. absurd (n z), λ h n. absurd (n z)))))))

  pub pclr-fills : Fills put_pclr j (pclr place start c j)
  unfolding pclr
  pclr-fills = each (Fills put_pclr j) _ (λ h. tt, λ h. (λ h. tt, λ h. (λ h. tt, λ h. (λ h. tt, λ h. refl))))

  pub cmap-fills : Fills put_cmap j (cmap place start c j)
  unfolding cmap
  cmap-fills = each (Fills put_cmap j) _ (λ h. tt, λ h. (λ h. tt, λ h. (λ h. tt, λ h. refl)))

  pub cdef-fills : Fills put_cdef j (cdef place start c j)
  unfolding cdef
  cdef-fills = each (Fills put_cdef j) _ (λ h. tt, λ h. (λ h. tt, λ h. (λ h. tt, λ h. (λ h. tt, λ h. refl))))
