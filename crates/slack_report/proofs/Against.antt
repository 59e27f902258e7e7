-- The slack against a clock, from its pieces.
use Rattle.std.proofs.Common.{◌≡◌, ℕ, ◌<◌, refl, sym, ap, subst, ◌∙◌, Bool, List, length, get_or, to_z, of_z, w64, ℤ, arith}
use Rattle.std.specs.Prelude.{Option, Some}
use Rattle.std.specs.Int.Signed.{mag}
use Rattle.std.specs.List.{slice_get}
use Rattle.std.proofs.lemmas.Int.{ints}
use Rattle.std.proofs.lemmas.Option.{slice_get_read}
use Rattle.xt_model.specs.declared.edge.Edge.TheVariants.{Rise}
use Rattle.xt_model.specs.declared.net.NetId.{NetId}
use Rattle.xt_model.specs.declared.quad.Quad.{Quad}
use Rattle.xt_model.specs.Tables.{TableParts}
use Rattle.xt_model.specs.Parts.{Parts}
use Rattle.xt_model.specs.Assign.{Assignment}
use Rattle.xt_meaning.specs.Lookup.{table_value, greatest_over}
use Rattle.xt_meaning.specs.Operator.{delay_range}
use Rattle.sink_windows.specs.declared.sink.SinkWindow.{SinkWindow}
use Rattle.sink_windows.specs.Sinks.{sink_window}
use Rattle.slack_report.specs.declared.check.Reference.{Reference}
use Rattle.slack_report.specs.declared.check.Reference.TheVariants.{Clock}
use Rattle.slack_report.specs.Slacks.{period_of, slews_box, constraint, flop_slack, slack_against}

pub kept_mag : (x : ℤ) → mag x < 9223372036854775808 → to_z w64 (of_z w64 x) ≡ x
kept_mag x h = omega (arith, ints, h)

pub table_at : (xs ts : List TableParts) (i : ℕ) (x : TableParts) → xs ≡ ts → i < length ts → x ≡ get_or xs i x → slice_get ts i ≡ Some x
table_at xs ts i x same i_in is = slice_get_read ts (length ts) i x refl i_in (rw same at is)

need_at : (d : Parts) (table : ℕ) (clock datum : Quad) (t : TableParts) (need : ℤ) → slice_get d.tables table ≡ Some t → need ≡ greatest_over (table_value t) (slews_box clock datum) → need ≡ constraint d table clock datum
need_at d table clock datum t need t_is is =
    let P : Option TableParts → Type 0 = λ o. need ≡ (delay_range o (slews_box clock datum)).most in
    subst P (sym t_is) is

pub against_clock : (d : Parts) (W : Assignment) (hold : Bool) (datum : Quad) (ref : Reference) (net : NetId) (sink table : ℕ) (s : SinkWindow) (t : TableParts) (x r period need : ℤ)
    → ref ≡ Clock net sink table → sink_window d W net.0 Rise sink ≡ Some s → slice_get d.tables table ≡ Some t → x ≡ r → r ≡ flop_slack hold period need s.window datum → period ≡ period_of d
    → need ≡ greatest_over (table_value t) (slews_box s.window datum) → Some x ≡ slack_against d W hold datum ref
against_clock d W hold datum ref net sink table s t x r period need ref_is s_is t_is x_is r_is period_is need_is =
    let n : need ≡ constraint d table s.window datum = need_at d table s.window datum t need t_is need_is in
    rw (ref_is, s_is) (ap (λ y. Some y) (x_is ∙ (r_is ∙ (rw (period_is, n) refl))))
