-- A load, in the words of the code.
use Rattle.std.proofs.Common.{◌≡◌, ℕ, ◌*◌, ◌<◌, ◌≤◌, sym, ap, subst, ◌∙◌, List, [], ◌∷◌, ◌++◌, length, length-append, arith}
use Rattle.xt_model.specs.declared.net.NetId.{NetId}
use Rattle.xt_model.specs.Quads.{IsPairInRange}
use Rattle.xt_model.specs.Parts.{Parts}
use Rattle.xt_meaning.specs.Reads.{IsReadList}
use Rattle.net_eval.specs.ReadLists.{AreReadLists, ids, reads_of}
use Rattle.chaos_core.specs.declared.setting.Setting.{Setting}
use Rattle.chaos_core.specs.declared.worker.Stage.{Stage}
use Rattle.chaos_core.specs.declared.worker.Moved.TheVariants.{Loaded}
use Rattle.chaos_core.specs.Boards.{nets_of, Knowledge, IsSeen, Loads}
use Rattle.chaos_core.specs.Tasks.{loading, task_at, list_of, word_to_load, evaluated, with_loaded}
use Rattle.chaos_core.specs.Steps.{FitsLoading, Fits, Steps}
use Rattle.chaos_core.specs.Views.{IsLoaded}
use Rattle.chaos_core.proofs.Moves.{load_loaded}
use Rattle.chaos_core.proofs.Places.{ids_count}
use Rattle.chaos_core.proofs.Stages.{stage_whole, stage_fits}

module _ (k l : Knowledge) (lists : List (List NetId)) (net : ℕ) (numbers : List ℕ) (word number : ℕ) (d : Parts) (reads : List NetId) (given : List ℕ) (own : k.setting.design ≡ d) (are : AreReadLists d lists)
    (fits : FitsLoading k lists net numbers) (is : word ≡ word_to_load (list_of lists net) (length numbers)) (same : reads ≡ reads_of lists net) where
  are_own : AreReadLists k.setting.design lists
  are_own = subst (λ x. AreReadLists x lists) (sym own) are

  same_setting : Loads k word number l → l.setting ≡ k.setting
  same_setting h = ap (λ (x : Knowledge). x.setting) h.after

  own_later : Loads k word number l → l.setting.design ≡ d
  own_later h = ap (λ (a : Setting). a.design) (same_setting h) ∙ own

  there_later : Loads k word number l → net < nets_of l.setting
  there_later h = subst (λ (a : Setting). net < nets_of a) (sym (same_setting h)) fits.there

  list_later : Loads k word number l → IsReadList l.setting.design net (list_of lists net)
  list_later h = subst (λ (a : Setting). IsReadList a.design net (list_of lists net)) (sym (same_setting h)) (are_own.each net fits.there)

  pub load_whole : given ≡ numbers ++ number ∷ [] → Loads k word number l → IsSeen l.setting l.seen → length given ≡ 8 * length reads → IsLoaded d (ids reads) net given
  load_whole sized h seen =
      stage_whole l lists net d reads given (numbers ++ number ∷ []) (own_later h) same sized seen (there_later h) (list_later h) (load_loaded k l lists net numbers word number are_own fits is h seen)

  pub load_few : given ≡ numbers ++ number ∷ [] → length given ≤ 8 * length reads
  load_few sized =
      let c = ids_count (reads_of lists net) in
      let long = ap length sized ∙ length-append numbers (number ∷ []) in
      let more = fits.more in
      rw same (omega (arith, c, long, more))

module _ (k l : Knowledge) (lists : List (List NetId)) (net : ℕ) (numbers : List ℕ) (word number : ℕ) (d : Parts) (reads : List NetId) (given items : List ℕ) (stage : Stage) (own : k.setting.design ≡ d)
    (are : AreReadLists d lists) (fits : FitsLoading k lists net numbers) (is : word ≡ word_to_load (list_of lists net) (length numbers)) (same : reads ≡ reads_of lists net) where
  pub load_fits : given ≡ items → items ≡ numbers ++ number ∷ [] → Loads k word number l → IsSeen l.setting l.seen
      → (8 * length reads ≤ length given → IsPairInRange (evaluated d (ids reads) given net)) → task_at stage given ≡ with_loaded d (ids reads) net given → Fits l lists (task_at stage items)
  load_fits sized pushed h seen range task =
      let loaded = load_loaded k l lists net numbers word number (are_own k l lists net numbers word number d reads given own are fits is same) fits is h seen in
      rw pushed (stage_fits l lists net d reads given (numbers ++ number ∷ []) stage (own_later k l lists net numbers word number d reads given own are fits is same h) same (sized ∙ pushed) seen
      (there_later k l lists net numbers word number d reads given own are fits is same h) (list_later k l lists net numbers word number d reads given own are fits is same h) loaded range task)

  pub load_steps : given ≡ items → items ≡ numbers ++ number ∷ [] → Loads k word number l → task_at stage given ≡ with_loaded d (ids reads) net given → (order : List ℕ)
      → Steps d lists order k (loading net numbers) (Loaded word) l (task_at stage items)
  load_steps sized pushed h task order = record {
    answer = number;
    acts = subst (λ w. Loads k w number l) is h;
    next =
        let t : task_at stage (numbers ++ number ∷ []) ≡ with_loaded d (list_of lists net) net (numbers ++ number ∷ []) = rw (same, sized, pushed) at task in
        rw pushed t;
    move = ap Loaded is;
  }
