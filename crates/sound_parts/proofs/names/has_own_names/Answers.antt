use Rattle.std.proofs.Common.{◌≡◌, ◌∙◌, Bool, true, false, not, length, refl, sym, ap, arith}
use Rattle.std.specs.HashSet.{contains}
use Rattle.std.specs.List.{list_any}
use Rattle.std.specs.Str.{bytes_eq}
use Rattle.std.proofs.lemmas.Bool.{false≢true, not-true, not-false}
use Rattle.std.proofs.lemmas.Option.{slice_get_read}
use Rattle.sound_parts.proofs.Seen.{not_own, own_at_end, own_more, seen_more, seen_none}
use Rattle.sound_parts.proofs.names.has_own_names.Goals as goal

pub loop-net-init : goal.loop-net-init
loop-net-init c = record {
  seen = seen_none _ _ _ (λ q. ap (list_any (λ y. bytes_eq q.now y.now)) c.new-seen.ensures.empty);
  own = record { differ = λ i j n m lt below. absurd (omega arith) };
}

pub returns-then-not-branch : goal.returns-then-not-branch
returns-then-not-branch c =
    let there = slice_get_read c.args.nets.now (length c.args.nets.now) c.loop-net.net-index c.net-item.result refl c.loop-net-test.true c.net-item.is in
    let old : contains (λ x y. bytes_eq x.now y.now) c.loop-net.seen c.bytes.result ≡ true = not-false _ (sym c.in_ok-insert.ensures.added ∙ c.if-not-branch.true) in (
      λ t. absurd (false≢true t),
      λ own. absurd (not_own (λ q. q.now) _ _ _ c.bytes.result _ there c.bytes.ensures.value old c.loop-net.invariant.seen own),
    )

pub loop-net-preserved : goal.loop-net-preserved
loop-net-preserved c =
    let there = slice_get_read c.args.nets.now (length c.args.nets.now) c.loop-net.net-index c.net-item.result refl c.loop-net-test.true c.net-item.is in
    let new : contains (λ x y. bytes_eq x.now y.now) c.loop-net.seen c.bytes.result ≡ false = not-true _ (sym c.in_ok-insert.ensures.added ∙ c.if-not-branch.false) in
    record {
      seen = seen_more (λ q. q.now) _ _ _ c.bytes.result _ _ there c.bytes.ensures.value c.in_ok-insert.ensures.updates.0 c.loop-net.invariant.seen;
      own = own_more (λ q. q.now) _ _ _ c.bytes.result _ there c.bytes.ensures.value new c.loop-net.invariant.seen c.loop-net.invariant.own;
    }

pub returns : goal.returns
returns c =
    (λ t. own_at_end c.args.nets.now c.loop-net.net-index (omega arith) c.loop-net.invariant.own, λ t. refl)
