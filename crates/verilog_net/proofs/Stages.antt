-- A fact of states that the items of a netlist's text keep is kept by the whole text.
use Rattle.std.specs.Prelude.{◌≡◌, ℕ, true, List, [], Result, Ok, IfOk}
use Rattle.std.specs.List.{AllByRecursion}
use Rattle.std.proofs.lemmas.Result.{IfOk-at_ok}
use Rattle.text_forms.specs.Names.{is_name}
use Rattle.xt_model.specs.declared.code.Code.{Code}
use Rattle.verilog_net.specs.declared.context.Context.{Context}
use Rattle.verilog_net.specs.declared.context.Context.TheVariants as contexts
use Rattle.verilog_net.specs.declared.netlist.PortRole.{PortRole}
use Rattle.verilog_net.specs.Sorts.{same_sort, netlist_tokens}
use Rattle.verilog_net.specs.Forms.{Text, Item, NetlistForm, misfits, is_done, forms, forms_in}
use Rattle.verilog_net.specs.Forms as grammar
use Rattle.text_forms.specs.Meaning.{text_means}
use Rattle.text_forms.proofs.Kept.{if_ok, FormKeeps, HoldsAtEnd, rest_keeps}
use Rattle.verilog_net.proofs.NameTokens as tokens
use Rattle.verilog_net.proofs.NameTokens.{names_named}

-- how far a text has come: before a module, in one, in an instance of one, in a pin of that, after an instance, after
-- a module
pub data Stage : Type 0 where
  before : Stage
  in_module : Stage
  in_instance : Stage
  in_pin : Stage
  between : Stage
  after : Stage

abbrev stage_of : Context → Stage
stage_of contexts.Start = before
stage_of contexts.ModuleName = before
stage_of contexts.BehindModule = after
stage_of contexts.Done = after
stage_of contexts.Opening = in_instance
stage_of contexts.Pins = in_instance
stage_of contexts.Pin = in_pin
stage_of contexts.Connection = in_pin
stage_of contexts.Connected = in_instance
stage_of contexts.BitGiven = in_instance
stage_of contexts.Closed = between
stage_of _ = in_module

module _ {S : Type 0} (step : Item → S → Result S Code) (Holds : Stage → S → Type 0) where
  -- an item leaves in one stage what is to hold in the next
  abbrev pub Keeps : Stage → Stage → Item → Type 0
  Keeps stage next item = (s s' : S) → Holds stage s → step item s ≡ Ok s' → Holds next s'

  pub record ItemsKeep : Type 0 where
    pub refused : (code : Code) (s s' : S) → step (grammar.Refused code) s ≡ Ok s' → ⊥
    pub quiet : (stage : Stage) → Keeps stage stage grammar.Nothing
    pub statement : Keeps between in_module grammar.Nothing
    pub first : Keeps before before grammar.ModuleBegins
    pub again : Keeps after before grammar.ModuleBegins
    pub named : (name : Text) → Keeps before in_module (grammar.ModuleName name)
    pub listed : (name : Text) → Keeps in_module in_module (grammar.Listed name)
    pub end : Keeps in_module after grammar.ModuleEnds
    pub scalar : (role : PortRole) (name : Text) → is_name name ≡ true → Keeps in_module in_module (grammar.Scalar role name)
    pub left : (role : PortRole) (digits : Text) → Keeps in_module in_module (grammar.Left role digits)
    pub right : (digits : Text) → Keeps in_module in_module (grammar.Right digits)
    pub further : (name : Text) → is_name name ≡ true → Keeps in_module in_module (grammar.Further name)
    pub instance : (cell name : Text) (line : ℕ) → is_name cell ≡ true → is_name name ≡ true → Keeps in_module in_instance (grammar.Instance cell name line)
    pub further_instance : (name : Text) (line : ℕ) → is_name name ≡ true → Keeps between in_instance (grammar.FurtherInstance name line)
    pub pin : (name : Text) → is_name name ≡ true → Keeps in_instance in_pin (grammar.Pin name)
    pub unconnected : Keeps in_pin in_instance grammar.NoConnection
    pub constant : Keeps in_pin in_instance grammar.Constant
    pub net : (name : Text) → is_name name ≡ true → Keeps in_pin in_instance (grammar.Net name)
    pub bit : (bus digits : Text) → Keeps in_pin in_instance (grammar.Bit bus digits)
    pub closed : Keeps in_instance between grammar.InstanceEnds

  module _ (k : ItemsKeep) where
    abbrev In : Context → S → Type 0
    In context s = Holds (stage_of context) s

    abbrev FormIs : Context → NetlistForm → Type 0
    FormIs context f = FormKeeps same_sort misfits is_done forms_in step tokens.IsNamed In context [] f

    by : (a b : Stage) (item : Item) → Keeps a b item → (s : S) → Holds a s → IfOk (step item s) (Holds b)
    by a b item keep s h = if_ok (Holds b) (step item s) (λ s' e. keep s s' h e)

    stop : (a b : Stage) (code : Code) → (s : S) → Holds a s → IfOk (step (grammar.Refused code) s) (Holds b)
    stop a b code = by a b (grammar.Refused code) (λ s s' h e. absurd (k.refused code s s' e))

    -- the items of each context's forms
    forms_keep : (context : Context) → AllByRecursion (FormIs context) (forms_in context)
    forms_keep contexts.Start = (λ a p. by _ _ _ k.first, (λ a p. stop _ _ _, tt))
    forms_keep contexts.BehindModule = (λ a p. by _ _ _ k.again, (λ a p. by _ _ _ (k.quiet after), (λ a p. stop _ _ _, tt)))
    forms_keep contexts.ModuleName = (λ a p. by _ _ _ (k.named a.text), tt)
    forms_keep contexts.Header = (
      λ a p. by _ _ _ (k.quiet in_module),
      (λ a p b q. by _ _ _ (k.listed b.text), (λ a p. stop _ _ _, (λ a p b q. stop _ _ _, tt))),
    )
    forms_keep contexts.Listed = (
      λ a p b q. by _ _ _ (k.listed b.text),
      (λ a p b q. by _ _ _ (k.quiet in_module), (λ a p. stop _ _ _, (λ a p b q. stop _ _ _, (λ a p b q. stop _ _ _, tt)))),
    )
    forms_keep contexts.Body = (
      λ a p b q. by _ _ _ (k.scalar _ b.text (q.1 q.0)),
      (
        λ a p b q c r. by _ _ _ (k.left _ c.text),
        (
          λ a p b q. by _ _ _ (k.scalar _ b.text (q.1 q.0)),
          (
            λ a p b q c r. by _ _ _ (k.left _ c.text),
            (λ a p b q. by _ _ _ (k.instance a.text b.text b.line (p.1 p.0) (q.1 q.0)), (λ a p. by _ _ _ k.end, tt)),
          ),
        ),
      ),
    )
    forms_keep contexts.LeftBound = (λ a p b q. by _ _ _ (k.right b.text), tt)
    forms_keep contexts.RightBound = (λ a p b q. by _ _ _ (k.further b.text (q.1 q.0)), tt)
    forms_keep contexts.Declared = (λ a p b q. by _ _ _ (k.further b.text (q.1 q.0)), (λ a p. by _ _ _ (k.quiet in_module), tt))
    forms_keep contexts.Opening = (λ a p. by _ _ _ (k.quiet in_instance), (λ a p. stop _ _ _, tt))
    forms_keep contexts.Pins = (
      λ a p. by _ _ _ k.closed,
      (λ a p b q. by _ _ _ (k.pin b.text (q.1 q.0)), (λ a p. stop _ _ _, (λ a p. stop _ _ _, (λ a p. stop _ _ _, tt)))),
    )
    forms_keep contexts.Pin = (λ a p. by _ _ _ (k.quiet in_pin), tt)
    forms_keep contexts.Connection = (
      λ a p. by _ _ _ k.unconnected,
      (
        λ a p b q. by _ _ _ k.constant,
        (
          λ a p b q. by _ _ _ (k.net a.text (p.1 p.0)),
          (λ a p b q c r d t. by _ _ _ (k.bit a.text c.text), (λ a p b q c r d t. stop _ _ _, (λ a p. stop _ _ _, tt))),
        ),
      ),
    )
    forms_keep contexts.BitGiven = (λ a p. by _ _ _ (k.quiet in_instance), tt)
    forms_keep contexts.Connected = (
      λ a p. by _ _ _ k.closed,
      (λ a p b q c r. by _ _ _ (k.pin c.text (r.1 r.0)), (λ a p b q. stop _ _ _, (λ a p b q. stop _ _ _, (λ a p b q. stop _ _ _, tt)))),
    )
    forms_keep contexts.Closed =
        (λ a p b q. by _ _ _ (k.further_instance b.text b.line (q.1 q.0)), (λ a p. by _ _ _ k.statement, tt))
    forms_keep contexts.Done = tt

    at_end : (context : Context) (s : S) → is_done context ≡ true → In context s → Holds after s
    at_end contexts.Done s e h = h
    at_end _ s e h = absurd (cc)

    pub text_kept : (bytes : List ℕ) (s s' : S) → Holds before s
        → text_means same_sort misfits forms step contexts.Start (netlist_tokens bytes) s ≡ Ok s' → Holds after s'
    text_kept bytes s s' h e =
        let keep = rest_keeps same_sort misfits is_done forms_in step tokens.IsNamed In forms_keep contexts.Start (netlist_tokens bytes) s (names_named bytes) h in
        let end = IfOk-at_ok (HoldsAtEnd same_sort misfits is_done forms_in step tokens.IsNamed In) e keep in
        at_end end.0 s' end.1 end.2
