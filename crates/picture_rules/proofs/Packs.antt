-- The channels' samples, packed one after the other: the place of each.
-- Assumes nothing.
use Prim.Native.Nat.{ℕ, zero, suc, ◌+◌, ◌*◌, ◌≤◌, ◌<◌}
use mathlib.Core.Path.{◌≡◌, refl, ap, ◌∙◌}
use mathlib.Core.List.{List, [], ◌∷◌, map, ◌++◌}
use native.Mathlib.Nat.{le_refl}
use native.Mathlib.Omega.{arith}
use lib.IntN.{ℤ}
use lib.ListN.{length, get_or, take, drop, length-append, length-take, length-drop, length-map, get_or-append}
use lib.Seq.{get_or-take, get_or-drop, get_or-append-add}
use Rattle.box_number.proofs.Rows.{row, each}
use Rattle.read_record.specs.declared.Jp2.{Jp2}
use Rattle.picture_rules.specs.Image.{Image, width, height, first, no_data, size}
use Rattle.picture_rules.specs.Channels.{component_of}
use Rattle.picture_rules.specs.Samples.{value_of, channel_samples, packed, start_of}
use Rattle.box_number.proofs.Indices.{last_or}

-- component r has no samples, or they lie in the list
abbrev pub Within : Image → ℕ → Type 0
Within i r = (first i r ≡ no_data → ⊥) → first i r + height i r * width i r ≤ length i.samples

get_d_map : {A B : Type 0} (v : A → B) (l : List A) (k : ℕ) (d : A) (e : B) → k < length l → get_or (map v l) k e ≡ v (get_or l k d)
get_d_map v [] k d e h = absurd (omega arith)
get_d_map v (x ∷ l) zero d e h = refl
get_d_map v (x ∷ l) (suc k) d e h = get_d_map v l k d e (omega arith)

module _ (i : Image) (r : ℕ) where
  -- the samples of component r
  plane : List ℤ
  plane = take (size i r) (drop (first i r) i.samples)

  pub size_none : first i r ≡ no_data → 0 ≡ size i r
  unfolding size
  size_none e = row 0 _ e refl

  pub size-some : (first i r ≡ no_data → ⊥) → height i r * width i r ≡ size i r
  unfolding size
  size-some h = row 1 _ (h, tt) refl

  plane-length : Within i r → length plane ≡ size i r
  unfolding size plane
  plane-length held = each (λ s. length (take s (drop (first i r) i.samples)) ≡ s) _ ((λ _. refl), λ h. let l = held h in simp (length-take, length-drop) (omega arith))

  plane-at : (k : ℕ) (d : ℤ) → k < size i r → get_or plane k d ≡ get_or i.samples (first i r + k) d
  unfolding plane
  plane-at k d h = rw (get_or-take, get_or-drop)

module _ (f : List ℕ) (m : Jp2) (i : Image) where
  channel-length : (c : ℕ) → Within i (component_of f m c) → length (channel_samples f m i c) ≡ size i (component_of f m c)
  unfolding channel_samples plane
  channel-length c held = rw length-map (plane-length i (component_of f m c) held)

  channel-at : (c k : ℕ) (d : ℤ) → Within i (component_of f m c) → k < size i (component_of f m c) → get_or (channel_samples f m i c) k d ≡ value_of f m i.count c (get_or i.samples (first i (component_of f m c) + k) d)
  unfolding channel_samples plane
  channel-at c k d held h =
      let r = component_of f m c in
      get_d_map (value_of f m i.count c) (plane i r) k d d (omega (arith, plane-length i r held)) ∙ ap (value_of f m i.count c) (plane-at i r k d h)

  pub start-more : (c n : ℕ) → c ≤ n → start_of f m i c ≤ start_of f m i n
  unfolding start_of
  start-more c zero h = let z : c ≡ 0 = omega arith in rw z (omega arith)
  start-more c (suc n) h = last_or (suc n) c (omega arith) (λ e. rw e (le_refl _)) (λ b. omega (arith, start-more c n (omega arith)))

  -- channels, each of whose components lies in its list
  abbrev pub Held : ℕ → Type 0
  Held n = (c : ℕ) → c < n → Within i (component_of f m c)

  pub packed-length : (n : ℕ) → Held n → length (packed f m i n) ≡ start_of f m i n
  unfolding packed start_of
  packed-length zero held = refl
  packed-length (suc n) held = rw length-append (omega (arith, packed-length n (λ c h. held c (omega arith)), channel-length n (held n (omega arith))))

  -- the samples of channel c are in the list
  pub packed-inside : (n : ℕ) → Held n → (c : ℕ) → c < n → start_of f m i c + size i (component_of f m c) ≤ length (packed f m i n)
  unfolding start_of
  packed-inside n held c h = omega (arith, packed-length n held, start-more (suc c) n h)

  packed-holds : (n : ℕ) → Held n → (c k : ℕ) → c < n → k < size i (component_of f m c) → start_of f m i c + k < length (packed f m i n)
  packed-holds n held c k h l = omega (arith, packed-inside n held c h)

  packed-channel : (n : ℕ) → Held n → (c k : ℕ) (d : ℤ) → c < n → k < size i (component_of f m c) → get_or (packed f m i n) (start_of f m i c + k) d ≡ get_or (channel_samples f m i c) k d
  unfolding packed start_of
  packed-channel zero held c k d h l = absurd (omega arith)
  packed-channel (suc n) held c k d h l =
      let before : Held n = λ c h. held c (omega arith) in
      let long = packed-length n before in
      last_or n c h
      (λ e. rw (e, ← long) (get_or-append-add (packed f m i n) (channel_samples f m i n) k d))
      (λ b. get_or-append (packed f m i n) (channel_samples f m i n) d (start_of f m i c + k) (packed-holds n before c k b l) ∙ packed-channel n before c k d b l)

  -- a sample of channel c is what the channel makes of its component's, whatever follows the channels
  pub packed-at :
      (n : ℕ) → Held n → (behind : List ℤ) (c k : ℕ) (d : ℤ) → c < n → (first i (component_of f m c) ≡ no_data → ⊥) → k < height i (component_of f m c) * width i (component_of f m c) →
      get_or (packed f m i n ++ behind) (start_of f m i c + k) d ≡ value_of f m i.count c (get_or i.samples (first i (component_of f m c) + k) d)
  packed-at n held behind c k d h some l =
      let b : k < size i (component_of f m c) = omega (arith, size-some i (component_of f m c) some) in
      get_or-append (packed f m i n) behind d (start_of f m i c + k) (packed-holds n held c k h b) ∙ packed-channel n held c k d h b ∙ channel-at c k d (held c h) b
