-- The state after a SPEF text is fine.
use Rattle.std.specs.Prelude.{◌≡◌, ℕ, Bool, true, false, List, [], IfOk}
use Rattle.std.specs.List.{AllByRecursion}
use Rattle.std.proofs.lemmas.Bool.{false≢true}
use Rattle.std.proofs.lemmas.Result.{IfOk-weaker}
use Rattle.text_forms.specs.Refusals.{tokens_refused}
use Rattle.xt_lex.specs.declared.rules.Rules.TheVariants.{Spef}
use Rattle.xt_model.specs.declared.code.Code.TheVariants.{S1, S2}
use Rattle.spef_read.specs.declared.sort.Sort.{Sort}
use Rattle.spef_read.specs.declared.sort.Sort.TheVariants as sorts
use Rattle.spef_read.specs.declared.context.Context.{Context}
use Rattle.spef_read.specs.declared.context.Context.TheVariants as contexts
use Rattle.spef_read.specs.Sorts.{spef_tokens}
use Rattle.spef_read.specs.Forms.{SpefForm, fits, misfits, is_word, is_node, is_done, quantity_of}
use Rattle.spef_read.specs.Forms.{separator_of, forms_in, section_forms, header_forms, closing_forms, behind_capacitors, behind_connections, lists_forms}
use Rattle.spef_read.specs.Meaning.{State, nothing, means}
use Rattle.spef_read.specs.Reading.{rest_means, text_state}
use Rattle.text_forms.proofs.Kept.{FormKeeps, HoldsAtEnd, rest_keeps, kept_unless}
use Rattle.spef_read.proofs.PrintableTokens.{IsPrintable, words_printable}
use Rattle.spef_read.proofs.FineStates.{IsFine, IsNamed, nothing_fine, separator_fine, pair_fine, brackets_fine, unit_number_fine, unit_fine, units_fine}
use Rattle.spef_read.proofs.FineStates.{pair_number_fine, end_pair_fine, first_fine, cap_node_fine, res_node_fine, net_name_fine, total_fine}
use Rattle.spef_read.proofs.FineStates.{cap_value_fine, res_value_fine, end_net_fine}

-- the contexts after the name of a net
abbrev in_net : Context → Bool
in_net contexts.NetTotal = true
in_net contexts.Totalled = true
in_net contexts.Lists = true
in_net contexts.Connections = true
in_net contexts.Connection = true
in_net contexts.Capacitors = true
in_net contexts.CapSecond = true
in_net contexts.CapValue = true
in_net contexts.Resistors = true
in_net contexts.ResSecond = true
in_net contexts.ResValue = true
in_net _ = false

abbrev HoldsBy : Bool → State → Type 0
HoldsBy true s = IsNamed s
HoldsBy false s = IsFine s

abbrev Holds : Context → State → Type 0
Holds context s = HoldsBy (in_net context) s

fine : (b : Bool) (s : State) → HoldsBy b s → IsFine s
fine true s h = h.0
fine false s h = h

-- a node is a word
node_word : (s : Sort) → is_node s ≡ true → is_word s ≡ true
node_word sorts.Digits h = absurd (false≢true h)
node_word sorts.Value h = absurd (false≢true h)
node_word _ h = h

-- ---- the forms of each context
module _ (context : Context) where
  abbrev AllOf : List SpefForm → Type 0
  AllOf fs = AllByRecursion (FormKeeps fits misfits is_done forms_in means IsPrintable Holds context []) fs

  abbrev fine_in : (s : State) → Holds context s → IsFine s
  fine_in = fine (in_net context)

  section_keep : AllOf section_forms
  unfolding means
  section_keep = (
    λ a p. fine_in,
    (λ a p. fine_in, (λ a p s h. units_fine s (fine_in s h), (λ a p s h. tt, (λ a p s h. units_fine s (fine_in s h), tt)))),
  )

  header_keep : AllOf header_forms
  unfolding means
  header_keep = (
    λ a p b q. fine_in,
    (
      λ a p b q. fine_in,
      (
        λ a p b q s h. separator_fine s (fine_in s h) (separator_of a.text) b.text (q.1 q.0),
        (
          λ a p b q c r s h. brackets_fine s (fine_in s h) b.text c.text,
          (
            λ a p b q s h. pair_fine s (fine_in s h) b.text,
            (λ a p b q s h. unit_number_fine s (fine_in s h) (quantity_of a.text) b.text, section_keep),
          ),
        ),
      ),
    ),
  )

  module _ (net : (s : State) → Holds context s → IsNamed s) where
    closing_keep : AllOf closing_forms
    unfolding means
    closing_keep = (λ a p s h. end_net_fine s (net s h), (λ a p s h. tt, (λ a p s h. tt, tt)))

    behind_capacitors_keep : AllOf behind_capacitors
    unfolding means
    behind_capacitors_keep = (λ a p. net, closing_keep)

    behind_connections_keep : AllOf behind_connections
    unfolding means
    behind_connections_keep = (λ a p. net, behind_capacitors_keep)

    lists_keep : AllOf lists_forms
    unfolding means
    lists_keep = (λ a p. net, behind_connections_keep)

forms_keep : (context : Context) → AllOf context (forms_in context)
unfolding means
forms_keep contexts.Start = (λ a p b q s h. h, tt)
forms_keep contexts.Header = header_keep contexts.Header
forms_keep contexts.Flow = (λ a p s h. h, header_keep contexts.Flow)
forms_keep contexts.Unit = (λ a p s h. unit_fine s h a.text, tt)
forms_keep contexts.Pairs = (λ a p s h. pair_number_fine s h a.text, section_keep contexts.Pairs)
forms_keep contexts.PairName = (λ a p s h. end_pair_fine s h a.text (p.1 p.0), tt)
forms_keep contexts.Skipped = (λ a p s h. h, section_keep contexts.Skipped)
forms_keep contexts.BehindNet = section_keep contexts.BehindNet
forms_keep contexts.NetName = (λ a p s h. net_name_fine s h a.text (p.1 p.0), tt)
forms_keep contexts.NetTotal = (λ a p s h. total_fine s h a.text, tt)
forms_keep contexts.Totalled = (λ a p b q s h. h, lists_keep contexts.Totalled (λ s h. h))
forms_keep contexts.Lists = lists_keep contexts.Lists (λ s h. h)
forms_keep contexts.Connections = (λ a p s h. h, behind_connections_keep contexts.Connections (λ s h. h))
forms_keep contexts.Connection = (λ a p s h. h, behind_connections_keep contexts.Connection (λ s h. h))
forms_keep contexts.Capacitors =
    (λ a p b q s h. first_fine s h.0 b.text (q.1 q.0), behind_capacitors_keep contexts.Capacitors (λ s h. h))
forms_keep contexts.CapSecond =
    (λ a p s h. cap_value_fine s h a.text, (λ a p s h. cap_node_fine s h.0 a.text (p.1 (node_word a.sort p.0)), tt))
forms_keep contexts.CapValue = (λ a p s h. cap_value_fine s h a.text, tt)
forms_keep contexts.Resistors = (λ a p b q s h. first_fine s h.0 b.text (q.1 q.0), closing_keep contexts.Resistors (λ s h. h))
forms_keep contexts.ResSecond = (λ a p s h. res_node_fine s h.0 a.text (p.1 p.0), tt)
forms_keep contexts.ResValue = (λ a p s h. res_value_fine s h a.text, tt)
forms_keep contexts.Done = tt

-- the state after a whole text is fine
pub text_fine : (bytes : List ℕ) → IfOk (text_state bytes) IsFine
unfolding text_state
text_fine bytes =
    let read = rest_keeps fits misfits is_done forms_in means IsPrintable Holds forms_keep contexts.Start (spef_tokens bytes) nothing (words_printable bytes) nothing_fine in
    kept_unless IsFine (tokens_refused Spef S1 S2 bytes) _
    (IfOk-weaker (rest_means contexts.Start (spef_tokens bytes) nothing) (HoldsAtEnd fits misfits is_done forms_in means IsPrintable Holds) IsFine
    (λ s end. fine (in_net end.0) s end.2) read)
