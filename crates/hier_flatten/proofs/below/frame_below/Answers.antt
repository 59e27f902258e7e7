use Rattle.std.proofs.Common.{◌≡◌, ◌+◌, ◌++◌, ◌∷◌, [], length, ap, ◌∙◌, arith}
use Rattle.std.proofs.lemmas.List.{length-append}
use Rattle.hier_flatten.specs.Flat.{meant_from, prefix_below}
use Rattle.hier_flatten.specs.Walk.{scope_at}
use Rattle.hier_flatten.proofs.BelowLaws.{scope_is}
use Rattle.hier_flatten.proofs.below.frame_below.Goals as goal

pub returns-clause-frame : goal.returns-clause-frame
returns-clause-frame c = λ prefix len.
    let name = c.args.instance.now.name in
    let below : length (prefix_below prefix name) ≡ length prefix + length (name ++ 47 ∷ []) = length-append prefix (name ++ 47 ∷ []) in
    let slash : length (name ++ 47 ∷ []) ≡ length name + 1 = length-append name (47 ∷ []) in
    let bytes : length c.bytes.result.now ≡ length name = ap length c.bytes.ensures in
    record {
      scope = scope_is c.args.flat.now (scope_at prefix c.args.frame.now) c.args.instance.now c.args.inner.now c.in_ok-wires.wires.items c.in_ok-meant.meant.items
          (c.in_ok-wires.ensures prefix)
          (c.in_ok-meant.ensures
          ∙ (ap (λ n. meant_from n c.as_slice.result.now) c.count_of.ensures ∙ ap (meant_from (length c.args.flat.now)) c.as_slice.ensures.value));
      rest = c.as_slice-2.ensures;
      path = omega (arith, c.in_ok-path.ensures, below, slash, bytes, len);
    }
