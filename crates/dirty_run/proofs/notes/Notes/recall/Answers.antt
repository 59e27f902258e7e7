use Rattle.std.proofs.Common.{arith, ◌≡◌, ℕ, ◌+◌, ◌-◌, ◌*◌, ◌<◌, sym, ap, subst, ◌∙◌, List, length, take, drop}
use Rattle.net_eval.specs.ReadLists.{reads_of}
use Rattle.chaos_core.specs.Tasks.{evaluated, list_of}
use Rattle.chaos_core.specs.Views.{IsLoaded}
use Rattle.chaos_core.proofs.Places.{ids_count}
use Rattle.dirty_run.specs.declared.notes.Note.{Note}
use Rattle.dirty_run.specs.Notes.{words_from, IsNote}
use Rattle.dirty_run.proofs.notes.Notes.recall.Goals as goal

pub returns : goal.returns
returns g c =
    let d = c.args.run.now.design.now in
    let lists = c.args.run.now.lists.now in
    let net = c.args.net.0 in
    let numbers = c.args.self.now.numbers.items in
    let note : Note = c.index-note.result.now in
    let below : c.args.place < length c.args.self.now.entries.items = let inside = c.if-place-len.false in let len = c.len.ensures in let ok = c.args.self.now.entries.ok.0 in omega (arith, inside, len, ok) in
    let at : IsNote d lists numbers note.net.0 note.from note.pair = subst (λ (e : Note). IsNote d lists numbers e.net.0 e.from e.pair) (sym c.index-note.ensures) (c.requires.notes c.args.place note below) in
    let own : IsNote d lists numbers net note.from note.pair = subst (λ (n : ℕ). IsNote d lists numbers n note.from note.pair) c.if-note-net.false at in
    let n = ids_count (reads_of lists net) in
    let k = ap length c.of.ensures in
    let count : 8 * length (list_of lists net) ≡ note.from + 8 * length c.of.result.now - note.from = omega (arith, n, k) in
    let value = c.as_slice.ensures.value in
    let same : words_from lists net note.from numbers ≡ take (note.from + 8 * length c.of.result.now - note.from) (drop note.from c.as_slice.result.now) = λ i. take (count i) (drop note.from (sym value i)) in
    record {
      loaded = subst (IsLoaded d (list_of lists net) net) same own.loaded;
      value = own.value ∙ ap (λ (ns : List ℕ). evaluated d (list_of lists net) ns net) same;
      range = own.range;
    }
