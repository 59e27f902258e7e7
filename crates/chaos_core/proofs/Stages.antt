-- What the code of a step makes, in the words of its contract.
use Rattle.std.proofs.Common.{◌≡◌, ℕ, zero, suc, ◌+◌, ◌*◌, ◌/◌, ◌%◌, ◌<◌, ◌≤◌, inl, inr, refl, sym, ap, subst, ◌∙◌, List, [], ◌++◌, length, take, drop, get_or, arith}
use Rattle.std.specs.Prelude.{slice_index}
use Rattle.std.proofs.Math.Seq.{take-append_seam}
use Rattle.std.proofs.lemmas.Bool.{cases_lt}
use Rattle.xt_model.specs.declared.net.NetId.{NetId}
use Rattle.xt_model.specs.declared.net.Net.{Net}
use Rattle.xt_model.specs.declared.quad.Pair.{Pair}
use Rattle.xt_model.specs.declared.edge.Edge.{Edge}
use Rattle.xt_model.specs.declared.edge.Edge.TheVariants.{Rise, Fall}
use Rattle.xt_model.specs.declared.quad.Quad.{Quad}
use Rattle.xt_model.specs.Assign.{edge_of, side_of}
use Rattle.xt_model.specs.Quads.{IsBound, IsInRange, IsPairInRange, quad_at}
use Rattle.xt_model.specs.Parts.{Parts}
use Rattle.xt_model.specs.Levels.{IsOrder, IsOrderBy}
use Rattle.xt_model.proofs.LevelLaws.{levels_are_one}
use Rattle.xt_model.proofs.OrderLaws.{orders_are_one}
use Rattle.xt_meaning.specs.Reads.{IsReadList}
use Rattle.xt_meaning.specs.Barrier.{IsBoundNoFurther}
use Rattle.xt_meaning.specs.Words.{bound_in, number_for, bounds_in, onward, further}
use Rattle.xt_meaning.proofs.Numbers.{bound_there}
use Rattle.net_eval.specs.ReadLists.{AreReadLists, ids, reads_of}
use Rattle.chaos_core.specs.declared.worker.Stage.{Stage}
use Rattle.chaos_core.specs.declared.worker.Stage.TheVariants.{Idle, Loading, Publishing, Finished}
use Rattle.chaos_core.specs.declared.worker.Moved.TheVariants.{Drew, Published}
use Rattle.chaos_core.specs.Boards.{nets_of, Knowledge, IsSeen, CanPublish, Publishes, HasPublished, Draws}
use Rattle.chaos_core.specs.Tasks.{Task, idle, loading, publishing, done, task_at, loaded_of, list_of, word_to_load, evaluated, bound_at, with_loaded, moved_on}
use Rattle.chaos_core.specs.Steps.{AreLoaded, FitsPublishing, Fits, Steps}
use Rattle.chaos_core.specs.Views.{IsLoaded}
use Rattle.chaos_core.proofs.Places.{id_at, ids_count, order_there}
use Rattle.chaos_core.proofs.Moves.{below, not_below, with_loaded_fits, with_loaded_whole, publish_fits}

-- ---- loading
-- the word that is loaded next
pub load_word : (lists : List (List NetId)) (net : ℕ) (numbers : List ℕ) (reads : List NetId) (items : List ℕ) (x : NetId) → reads ≡ reads_of lists net → items ≡ numbers
    → length numbers < 8 * length (list_of lists net) → 8 * (get_or reads (length items / 8) x).0 + length items % 8 ≡ word_to_load (list_of lists net) (length numbers)
load_word lists net numbers reads items x same sized more =
    let c = ids_count (reads_of lists net) in
    let at = id_at (reads_of lists net) (length numbers / 8) x (omega arith) in
    rw (same, sized) (let e : _ ≡ _ = at in omega (arith, e))

-- a worker with these numbers loaded can evaluate its net, where they are all
pub stage_whole : (l : Knowledge) (lists : List (List NetId)) (net : ℕ) (d : Parts) (reads : List NetId) (given items : List ℕ) → l.setting.design ≡ d → reads ≡ reads_of lists net → given ≡ items
    → IsSeen l.setting l.seen → net < nets_of l.setting → IsReadList l.setting.design net (list_of lists net) → AreLoaded l.setting l.seen (list_of lists net) items
    → length given ≡ 8 * length reads → IsLoaded d (ids reads) net given
stage_whole l lists net d reads given items own same sized seen there list loaded whole =
    let c = ids_count (reads_of lists net) in
    let w : length items ≡ 8 * length (reads_of lists net) = rw (same, sized) at whole in
    rw (same, sized, ← own) (with_loaded_whole l lists net items seen there list loaded (omega (arith, c, w)))

pub stage_fits : (l : Knowledge) (lists : List (List NetId)) (net : ℕ) (d : Parts) (reads : List NetId) (given items : List ℕ) (stage : Stage) → l.setting.design ≡ d → reads ≡ reads_of lists net → given ≡ items
    → IsSeen l.setting l.seen → net < nets_of l.setting → IsReadList l.setting.design net (list_of lists net) → AreLoaded l.setting l.seen (list_of lists net) items
    → (8 * length reads ≤ length given → IsPairInRange (evaluated d (ids reads) given net)) → task_at stage given ≡ with_loaded d (ids reads) net given → Fits l lists (task_at stage items)
stage_fits l lists net d reads given items stage own same sized seen there list loaded range task =
    let c = ids_count (reads_of lists net) in
    let r : 8 * length (reads_of lists net) ≤ length items → IsPairInRange (evaluated l.setting.design (list_of lists net) items net) = rw (same, sized, ← own) at range in
    let t : task_at stage items ≡ with_loaded l.setting.design (list_of lists net) net items = rw (same, sized, ← own) at task in
    rw t (with_loaded_fits l lists net items seen there list loaded (λ h. r (omega (arith, c, h))))

-- ---- drawing
pub drawn_there : (d : Parts) (lists : List (List NetId)) (order : List ℕ) (number : ℕ) → AreReadLists d lists → IsOrder d.nets order → number < length d.nets → slice_index order number < length lists
drawn_there d lists order number are o h = let k = order_there d order number o h in omega (arith, k, are.count)

pub one_order : (nets : List Net) (a b : List ℕ) → IsOrder nets a → IsOrder nets b → a ≡ b
one_order nets a b x y =
    let e = levels_are_one nets x.0 y.0 x.1 y.1 in
    orders_are_one nets x.0 a b x.2 (subst (λ ls. IsOrderBy nets ls b) (sym e) y.2)

pub drawn_steps : (d : Parts) (lists : List (List NetId)) (order mine : List ℕ) (k l : Knowledge) (number : ℕ) (reads : List NetId) (given items : List ℕ) (stage : Stage) → IsOrder d.nets order → IsOrder d.nets mine
    → number < length d.nets → reads ≡ reads_of lists (slice_index mine number) → given ≡ [] → items ≡ [] → Draws k number l
    → task_at stage given ≡ with_loaded d (ids reads) (slice_index mine number) given → Steps d lists order k idle (Drew number) l (task_at stage items)
drawn_steps d lists order mine k l number reads given items stage o m lt same none empty draws task =
    let t : task_at stage [] ≡ with_loaded d (list_of lists (slice_index mine number)) (slice_index mine number) [] = rw (same, none) at task in
    let b = below number (length d.nets) lt in
    let e : mine ≡ order = one_order d.nets mine order m o in
    record {
      answer = number;
      acts = draws;
      next = rw (b, empty, ← e) t;
      move = rw b refl;
    }

-- ---- publishing
-- the bounds of windows in range
pub side_in_range : (q : Quad) (s : ℕ) → IsInRange q → IsBound (side_of q s)
side_in_range q zero h = h.tlo
side_in_range q (suc zero) h = h.thi
side_in_range q (suc (suc zero)) h = h.slo
side_in_range q (suc (suc (suc s))) h = h.shi

quad_in_range : (p : Pair) (e : Edge) → IsPairInRange p → IsInRange (quad_at p e)
quad_in_range p Rise h = h.rise
quad_in_range p Fall h = h.fall

pub bound_in_range : (p : Pair) (place : ℕ) → IsPairInRange p → IsBound (bound_at p place)
bound_in_range p place h = side_in_range (quad_at p (edge_of (place / 4))) (place % 4) (quad_in_range p (edge_of (place / 4)) h)

-- the value of a word that is published next
pub can_publish : (k : Knowledge) (net : ℕ) (pair : Pair) (place value : ℕ) → FitsPublishing k net pair place → value ≡ number_for (bound_at pair place) → CanPublish k (8 * net + place) value
can_publish k net pair place value fits is =
    let way = k.setting.way in
    let far = onward k.setting.design (bounds_in k.seen) (8 * net + place) in
    let par : (8 * net + place) % 2 ≡ place % 2 = omega arith in
    let e : bound_in value ≡ bound_at pair place = ap bound_in is ∙ (bound_there (bound_at pair place) (bound_in_range pair place fits.range)).0 in
    subst (λ s. IsBoundNoFurther way s (bound_in value) far) (sym par) (subst (λ x. IsBoundNoFurther way (place % 2) x far) (sym e) (fits.fits place fits.more))

abbrev pub IsStageAfter : Stage → ℕ → Pair → ℕ → Type 0
IsStageAfter stage net pair place = (d : Parts) (lists : List (List NetId)) (order numbers : List ℕ) (number : ℕ) → task_at stage numbers ≡ moved_on d lists order (publishing net pair place) number

pub next_fits : (k l : Knowledge) (d : Parts) (lists : List (List NetId)) (order : List ℕ) (net : ℕ) (pair : Pair) (place value number : ℕ) → FitsPublishing k net pair place
    → HasPublished k (8 * net + place) value l → IsSeen l.setting l.seen → Fits l lists (moved_on d lists order (publishing net pair place) number)
next_fits k l d lists order net pair place value number fits h seen = elim (cases_lt (place + 1) 8) [
  | inl p ↦ rw (below (place + 1) 8 p) (publish_fits k l lists net pair place value fits h seen p)
  | inr p ↦ rw (not_below (place + 1) 8 p) tt
]

pub published_fits : (k l : Knowledge) (lists : List (List NetId)) (net : ℕ) (pair : Pair) (place value : ℕ) (stage : Stage) (items : List ℕ) → FitsPublishing k net pair place
    → HasPublished k (8 * net + place) value l → IsSeen l.setting l.seen → IsStageAfter stage net pair place → Fits l lists (task_at stage items)
published_fits k l lists net pair place value stage items fits h seen after =
    rw (after k.setting.design lists [] items 0) (next_fits k l k.setting.design lists [] net pair place value 0 fits h seen)

pub published_steps : (d : Parts) (lists : List (List NetId)) (order : List ℕ) (k l : Knowledge) (net : ℕ) (pair : Pair) (place value : ℕ) (stage : Stage) (items : List ℕ)
    → value ≡ number_for (bound_at pair place) → HasPublished k (8 * net + place) value l → IsStageAfter stage net pair place → Steps d lists order k (publishing net pair place) (Published (8 * net + place)) l (task_at stage items)
published_steps d lists order k l net pair place value stage items is h after = record {
  answer = h.0;
  acts = subst (λ v. Publishes k (8 * net + place) h.0 (further k.setting.way ((8 * net + place) % 2) h.0 v) l) is h.1;
  next = after d lists order items h.0;
  move = refl;
}

-- room stays
pub room_stays : (lists : List (List NetId)) (before after : ℕ) → after ≡ before → ((net : ℕ) → 8 * length (list_of lists net) ≤ before) → (net : ℕ) → 8 * length (list_of lists net) ≤ after
room_stays lists before after e h net = let k = h net in omega (arith, e, k)

-- places stay: what is in a vector after its numbers were written by way of a slice is as long as before
pub places_stay : (count n : ℕ) (xs ys : List ℕ) → n ≡ length xs → length ys ≡ length xs → count ≤ length xs → count ≤ length (take n (ys ++ drop (length ys) xs))
places_stay count n xs ys is same few =
    let P : ℕ → Type 0 = λ k. take k (ys ++ drop (length ys) xs) ≡ ys in
    let long : length (take n (ys ++ drop (length ys) xs)) ≡ length ys = ap length (subst P (same ∙ sym is) (take-append_seam ys (drop (length ys) xs))) in
    omega (arith, long, same, few)

-- ---- what a worker that loads has loaded is what its task says
abbrev IsLoading : Task → Type 0
IsLoading idle = ⊥
IsLoading (loading net numbers) = Unit {0}
IsLoading (publishing net pair place) = ⊥
IsLoading done = ⊥

loads_at : (stage : Stage) (items : List ℕ) (net : ℕ) → task_at stage items ≡ loading net (loaded_of (task_at stage items)) → task_at stage items ≡ loading net items
loads_at Idle items net e = absurd (subst IsLoading (sym e) tt)
loads_at (Loading n) items net e = e
loads_at (Publishing n pair place) items net e = absurd (subst IsLoading (sym e) tt)
loads_at Finished items net e = absurd (subst IsLoading (sym e) tt)

pub loads_there : (stage : Stage) (items : List ℕ) (net : ℕ) (t : Task) → task_at stage items ≡ t → t ≡ loading net (loaded_of t) → t ≡ loading net items
loads_there stage items net t is = subst (λ u. u ≡ loading net (loaded_of u) → u ≡ loading net items) is (loads_at stage items net)
