-- The views of all passes after a change of one, or with one more.
use Rattle.std.proofs.Common.{◌≡◌, ◌≢◌, ◌⊎◌, ℕ, zero, suc, ◌<◌, inl, inr, sym, subst, ◌∙◌, List, [], ◌∷◌, ◌++◌, length, set, arith}
use Rattle.std.proofs.lemmas.Bool.{cases_eq}
use mathlib.Core.Option.{some-injective, some-ne-none}
use Rattle.atomic_table.proofs.Lists.{at_set, at_snoc, at_longer, set_here, set_else}
use Rattle.dirty_words.specs.declared.view.DirtyView.{DirtyView}
use Rattle.dirty_words.specs.Rule.{IsThere, IsLive, EachLive, SomeLive}

pub within : (views : List DirtyView) (id : ℕ) (v : DirtyView) → IsThere views id v → id < length views
within [] id v e = absurd (some-ne-none v (sym e))
within (x ∷ views) zero v e = omega arith
within (x ∷ views) (suc i) v e = let h = within views i v e in omega (arith, h)

pub same_view : (views : List DirtyView) (id : ℕ) (v w : DirtyView) → IsThere views id v → IsThere views id w → v ≡ w
same_view views id v w e g = some-injective v w (sym e ∙ g)

pub here : (views : List DirtyView) (id : ℕ) (v w : DirtyView) → IsThere views id v → IsThere (set views id w) id w
here views id v w there = set_here views id w (within views id v there)

-- a fact of each live view holds of each after a change of one
pub each_live : (P : DirtyView → Type 0) (views : List DirtyView) (id : ℕ) (w : DirtyView) → ((j : ℕ) (u : DirtyView) → j ≢ id → IsThere views j u → IsLive u → P u) → (IsLive w → P w) → EachLive (set views id w) P
each_live P views id w others own j u e live = elim (at_set views id j w u e) [
  | inl p ↦ subst P p.1 (own (subst IsLive (sym p.1) live))
  | inr p ↦ others j u p.0 p.1 live
]

-- the same with one more
pub each_more : (P : DirtyView → Type 0) (views : List DirtyView) (w : DirtyView) → EachLive views P → (IsLive w → P w) → EachLive (views ++ w ∷ []) P
each_more P views w each own j u e live = elim (at_snoc views w u j e) [
  | inl p ↦ each j u p live
  | inr p ↦ subst P p (own (subst IsLive (sym p) live))
]

pub only_one : (P : DirtyView → Type 0) (w : DirtyView) → P w → EachLive (w ∷ []) P
only_one P w own zero u e live = subst P (some-injective w u e) own
only_one P w own (suc j) u e live = absurd (some-ne-none u (sym e))

-- a fact of some live view: of one that changes, or of another, which stays
pub some_else : (P : DirtyView → Type 0) (views : List DirtyView) (id : ℕ) (v w : DirtyView) → IsThere views id v → SomeLive views P → P v ⊎ SomeLive (set views id w) P
some_else P views id v w there s = elim (cases_eq s.id id) [
  | inl e ↦
      let at : IsThere views id s.view = subst (λ j. IsThere views j s.view) e s.there in
      inl (subst P (same_view views id s.view v at there) s.holds)
  | inr ne ↦ inr (record { id = s.id; view = s.view; there = set_else views id s.id w ne ∙ s.there; live = s.live; holds = s.holds })
]

pub some_here : (P : DirtyView → Type 0) (views : List DirtyView) (id : ℕ) (v w : DirtyView) → IsThere views id v → IsLive w → P w → SomeLive (set views id w) P
some_here P views id v w there live h = record { id = id; view = w; there = here views id v w there; live = live; holds = h }

pub some_on : (P : DirtyView → Type 0) (views : List DirtyView) (id : ℕ) (v w : DirtyView) → IsThere views id v → IsLive w → (P v → P w) → SomeLive views P → SomeLive (set views id w) P
some_on P views id v w there live on s = elim (some_else P views id v w there s) [
  | inl p ↦ some_here P views id v w there live (on p)
  | inr s ↦ s
]

pub some_more : (P : DirtyView → Type 0) (views : List DirtyView) (w : DirtyView) → SomeLive views P → SomeLive (views ++ w ∷ []) P
some_more P views w s = record { id = s.id; view = s.view; there = at_longer views (w ∷ []) s.id s.view s.there; live = s.live; holds = s.holds }

pub some_map : (P Q : DirtyView → Type 0) (views : List DirtyView) → ((j : ℕ) (u : DirtyView) → IsThere views j u → IsLive u → P u → Q u) → SomeLive views P → SomeLive views Q
some_map P Q views f s = record { id = s.id; view = s.view; there = s.there; live = s.live; holds = f s.id s.view s.there s.live s.holds }

-- where no other view is live, a fact of some is a fact of one
pub only_live : (P : DirtyView → Type 0) (views : List DirtyView) (id : ℕ) (v : DirtyView) → IsThere views id v → ((j : ℕ) (u : DirtyView) → j ≢ id → IsThere views j u → IsLive u → ⊥) → SomeLive views P → P v
only_live P views id v there none s = elim (cases_eq s.id id) [
  | inl e ↦
      let at : IsThere views id s.view = subst (λ j. IsThere views j s.view) e s.there in
      subst P (same_view views id s.view v at there) s.holds
  | inr ne ↦ absurd (none s.id s.view ne s.there s.live)
]

-- two views become one, and another is spent
pub some_joined : (P : DirtyView → Type 0) (views : List DirtyView) (id other : ℕ) (v w both spent : DirtyView) → other ≢ id → IsThere views id v → IsThere (set views id both) other w → IsLive both
    → (P v → P both) → (P w → P both) → SomeLive views P → SomeLive (set (set views id both) other spent) P
some_joined P views id other v w both spent ne there second live first last s =
    let at : IsThere (set (set views id both) other spent) id both = set_else (set views id both) other id spent (λ e. ne (sym e)) ∙ here views id v both there in
    let own : P both → SomeLive (set (set views id both) other spent) P = λ h. record { id = id; view = both; there = at; live = live; holds = h } in
    elim (some_else P views id v both there s) [
      | inl p ↦ own (first p)
      | inr t ↦ elim (some_else P (set views id both) other w spent second t) [
        | inl p ↦ own (last p)
        | inr t ↦ t
      ]
    ]
