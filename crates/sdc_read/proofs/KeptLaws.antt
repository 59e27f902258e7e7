-- Mentions that are kept by the numbers of what is said.
use Rattle.std.proofs.Common.{◌≡◌, refl, sym, ap, ◌∙◌, ℕ, ◌+◌, [], ◌∷◌, ◌++◌, map, drop}
use Rattle.std.specs.Prelude.{List, Option, Some, None, IsSome, is_some}
use Rattle.std.specs.List.{All, slice_get, slice_index_or}
use Rattle.std.proofs.lemmas.List.{map-append, drop_more}
use Rattle.std.proofs.lemmas.List.Elements.{All-head, All-tail}
use Rattle.std.proofs.lemmas.Option.{slice_get_within, get_or_from_slice_get}
use Rattle.verilog_net.specs.declared.netlist.Net.{Net}
use Rattle.sdc_forms.specs.declared.picked.Picked.{Picked}
use Rattle.sdc_read.specs.declared.mentions.Mention.{Mention}
use Rattle.sdc_read.specs.declared.mentions.Place.{Place}
use Rattle.sdc_read.specs.declared.mentions.Said.{Said}
use Rattle.sdc_read.specs.declared.ports.PortBit.{PortBit}
use Rattle.sdc_read.specs.Mentions.{hits}
use Rattle.sdc_read.specs.Levels.{put_if, set_by, with_place, levels_of}
use Rattle.sdc_read.specs.Kept.{mention_by, mention_of, IsThere, AreKept}

-- ---- what is said is kept

module _ (old new : List Said) (kept : AreKept old new) where
  one_kept : (o : Option Said) (p : Place) → slice_get old p.said ≡ o → IsSome o → mention_of new p ≡ mention_by o p.bits
  one_kept None p at is = absurd (cc)
  one_kept (Some s) p at is = ap (λ o. mention_by o p.bits) (kept p.said s at)

  there_by : (o : Option Said) (p : Place) → slice_get old p.said ≡ o → IsSome o → IsThere new p
  there_by None p at is = absurd (cc)
  there_by (Some s) p at is = ap is_some (kept p.said s at)

  pub view_kept : (ps : List Place) → All (IsThere old) ps → map (mention_of new) ps ≡ map (mention_of old) ps
  view_kept [] all = refl
  view_kept (p ∷ ps) all =
      ap (λ m. m ∷ map (mention_of new) ps) (one_kept (slice_get old p.said) p refl (All-head (IsThere old) p ps all))
      ∙ ap (λ l. mention_of old p ∷ l) (view_kept ps (All-tail (IsThere old) p ps all))

  pub all_kept : (ps : List Place) → All (IsThere old) ps → All (IsThere new) ps
  all_kept ps all = λ k d h.
      there_by (slice_get old (slice_index_or ps k d).said) (slice_index_or ps k d) refl (all k d h)

  -- one mention more at the end
  pub pushed : (ps : List Place) → All (IsThere old) ps → (p : Place) (s : Said) → slice_get new p.said ≡ Some s
      → map (mention_of new) (ps ++ p ∷ []) ≡ map (mention_of old) ps ++ mention_by (Some s) p.bits ∷ []
  pushed ps all p s at =
      map-append (mention_of new) ps (p ∷ [])
      ∙ (ap (λ l. l ++ mention_of new p ∷ []) (view_kept ps all)
      ∙ ap (λ o. map (mention_of old) ps ++ mention_by o p.bits ∷ []) at)

-- ---- one mention more, from the end

module _ (ms : List Mention) (i j : ℕ) (m : Mention) (at : slice_get ms j ≡ Some m) (next : i ≡ j + 1) where
  rest_at : drop j ms ≡ m ∷ drop i ms
  rest_at =
      drop_more ms j m (slice_get_within ms j m at)
      ∙ (ap (λ x. x ∷ drop (j + 1) ms) (get_or_from_slice_get ms j m m at) ∙ ap (λ k. m ∷ drop k ms) (sym next))

  pub set_more : (ns : List Net) (b : PortBit) → put_if (hits ns m b) m.change (set_by ns b (drop i ms)) ≡ set_by ns b (drop j ms)
  set_more ns b = ap (set_by ns b) (sym rest_at)

  pub levels_more : (ns : List Net) → with_place ns m.bits m.change (levels_of ns (drop i ms)) ≡ levels_of ns (drop j ms)
  levels_more ns = ap (levels_of ns) (sym rest_at)

-- ---- what is said alike

pub same_picked : (p q : Picked) → p.rise ≡ q.rise → p.fall ≡ q.fall → p.min ≡ q.min → p.max ≡ q.max → p ≡ q
same_picked p q a b c d =
    let k : ◌≡◌ {A = Picked} (record { rise = p.rise; fall = p.fall; min = p.min; max = p.max })
    (record { rise = q.rise; fall = q.fall; min = q.min; max = q.max }) = rw (a, b, c, d) refl in k

pub same_said : (s t : Said) → s.change ≡ t.change → s.clock ≡ t.clock → s ≡ t
same_said s t a b =
    let k : ◌≡◌ {A = Said} (record { change = s.change; clock = s.clock }) (record { change = t.change; clock = t.clock }) = rw (a, b) refl in k
