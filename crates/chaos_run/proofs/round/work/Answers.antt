use Rattle.std.proofs.Common.{◌∙◌, refl, sym, ap, subst}
use Rattle.std.specs.Prelude.{Some}
use Rattle.window_words.specs.Boards.{Holding, IsOf}
use Rattle.chaos_run.proofs.Parts.{comes_back, pass_found, room_for}
use Rattle.chaos_run.proofs.round.work.Goals as goal

pub returns : goal.returns
returns g c =
    let ordered = c.requires.run.whole.ordered in
    let ready = c.requires.ready in
    let same = pass_found c.args.own.now c.in-Some.seated ready.pass (sym c.in-Some.ensures.value) ready.there in
    let before : Holding = c.in-Some.seated.pass in
    let after : Holding = c.run_grouped.new.board.pass in
    let own = subst (λ p. IsOf c.args.run.now.board.now p) (sym same) ready.own in
    record {
      before = before;
      after = after;
      had = ready.there ∙ ap Some (sym same);
      there = refl;
      own = comes_back c.args.run.now.board.now before after ordered.0 own (c.run_grouped.ensures.ran ordered.0 ordered.1);
      ran = c.run_grouped.ensures.ran;
      room = room_for c.args.run.now.lists.now c.args.own.now.worker c.run_grouped.new.worker (c.run_grouped.ensures.room ∙ c.reset.ensures.room) (c.run_grouped.ensures.places ∙ c.reset.ensures.places) ready.room;
    }
