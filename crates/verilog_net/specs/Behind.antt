-- The forms of a netlist behind the first tokens of them.
use Rattle.std.specs.Prelude.{List, [], ◌∷◌, Result}
use Rattle.text_forms.specs.Forms.{Token, Refusal, agree, form_at}
use Rattle.xt_model.specs.declared.code.Code.{Code}
use Rattle.verilog_net.specs.declared.sort.Sort.{Sort}
use Rattle.verilog_net.specs.Sorts.{same_sort}
use Rattle.verilog_net.specs.Forms.{NetlistForm, WholeForm, Tokens, misfits}

-- what is read behind a token of this sort
abbrev pub behind_one : Sort → List NetlistForm → Token Sort → Tokens → Result (WholeForm × Tokens) (Refusal Code)
behind_one s fs t ts = form_at same_sort misfits (agree same_sort s fs) (t ∷ []) ts

-- what is read behind two tokens of these sorts
abbrev pub behind_two : Sort → Sort → List NetlistForm → Token Sort → Token Sort → Tokens
    → Result (WholeForm × Tokens) (Refusal Code)
behind_two s r fs t u ts = form_at same_sort misfits (agree same_sort r (agree same_sort s fs)) (t ∷ u ∷ []) ts
