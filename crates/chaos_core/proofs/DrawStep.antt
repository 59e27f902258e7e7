-- A draw, in the words of the code.
use Rattle.std.proofs.Common.{◌≡◌, ℕ, ◌*◌, ◌<◌, ◌≤◌, sym, ap, subst, ◌∙◌, List, [], length}
use Rattle.std.specs.Prelude.{slice_index}
use Rattle.xt_model.specs.declared.net.NetId.{NetId}
use Rattle.xt_model.specs.Quads.{IsPairInRange}
use Rattle.xt_model.specs.Parts.{Parts}
use Rattle.xt_model.specs.Levels.{IsOrder}
use Rattle.xt_meaning.specs.Reads.{IsReadList}
use Rattle.net_eval.specs.ReadLists.{AreReadLists, ids, reads_of}
use Rattle.chaos_core.specs.declared.worker.Stage.{Stage}
use Rattle.chaos_core.specs.Boards.{nets_of, Knowledge, IsSeen, Draws}
use Rattle.chaos_core.specs.Tasks.{task_at, list_of, evaluated, with_loaded}
use Rattle.chaos_core.specs.Steps.{Fits}
use Rattle.chaos_core.specs.Views.{IsLoaded}
use Rattle.chaos_core.proofs.Places.{order_there}
use Rattle.chaos_core.proofs.Loads.{none_loaded}
use Rattle.chaos_core.proofs.Stages.{stage_whole, stage_fits}

own_later : (k l : Knowledge) (number : ℕ) (d : Parts) → k.setting.design ≡ d → Draws k number l → l.setting.design ≡ d
own_later k l number d own h = ap (λ (x : Knowledge). x.setting.design) h.after ∙ own

there_later : (l : Knowledge) (d : Parts) (net : ℕ) → l.setting.design ≡ d → net < length d.nets → net < nets_of l.setting
there_later l d net own h = subst (λ (x : Parts). net < length x.nets) (sym own) h

list_later : (l : Knowledge) (d : Parts) (lists : List (List NetId)) (net : ℕ) → l.setting.design ≡ d → AreReadLists d lists → net < length d.nets → IsReadList l.setting.design net (list_of lists net)
list_later l d lists net own are h = subst (λ (x : Parts). IsReadList x net (list_of lists net)) (sym own) (are.each net h)

pub draw_whole : (k l : Knowledge) (lists : List (List NetId)) (number : ℕ) (d : Parts) (order : List ℕ) (reads : List NetId) (given : List ℕ) → k.setting.design ≡ d → AreReadLists d lists → IsOrder d.nets order
    → number < length d.nets → reads ≡ reads_of lists (slice_index order number) → given ≡ [] → Draws k number l → IsSeen l.setting l.seen
    → length given ≡ 8 * length reads → IsLoaded d (ids reads) (slice_index order number) given
draw_whole k l lists number d order reads given own are o lt same none h seen =
    let net = slice_index order number in
    let there = order_there d order number o lt in
    let own' = own_later k l number d own h in
    stage_whole l lists net d reads given [] own' same none seen (there_later l d net own' there) (list_later l d lists net own' are there) (none_loaded l.setting l.seen (list_of lists net))

pub draw_fits : (k l : Knowledge) (lists : List (List NetId)) (number : ℕ) (d : Parts) (order : List ℕ) (reads : List NetId) (given items : List ℕ) (stage : Stage) → k.setting.design ≡ d → AreReadLists d lists
    → IsOrder d.nets order → number < length d.nets → reads ≡ reads_of lists (slice_index order number) → given ≡ items → items ≡ [] → Draws k number l → IsSeen l.setting l.seen
    → (8 * length reads ≤ length given → IsPairInRange (evaluated d (ids reads) given (slice_index order number)))
    → task_at stage given ≡ with_loaded d (ids reads) (slice_index order number) given → Fits l lists (task_at stage items)
draw_fits k l lists number d order reads given items stage own are o lt same sized none h seen range task =
    let net = slice_index order number in
    let there = order_there d order number o lt in
    let own' = own_later k l number d own h in
    rw none (stage_fits l lists net d reads given [] stage own' same (sized ∙ none) seen (there_later l d net own' there) (list_later l d lists net own' are there)
    (none_loaded l.setting l.seen (list_of lists net)) range task)
