-- Where the contents of the files are known, the files of a block lead to one outcome.
use Rattle.std.proofs.Common.{◌≡◌, ◌≤◌, ℕ, length, Result, Ok, Err, IfSome, ap, refl, sym, ◌∙◌, subst, inl, inr}
use Rattle.std.specs.Prelude.{IsSome}
use Rattle.xt_model.specs.declared.fault.LimitKind.{LimitKind}
use Rattle.xt_model.specs.Parts.{Parts}
use Rattle.xt_model.specs.Sound.{IsSound}
use Rattle.link_rules.specs.declared.fault.LinkRefusal.{LinkRefusal}
use Rattle.link_rules.specs.Bare.{Inputs}
use Rattle.link_rules.proofs.OneOutcome.{design_is_one, fault_is_one, linked_is_accepted}
use Rattle.command_line.specs.Words.{Text}
use Rattle.call_meaning.specs.Outcome.{Contents, Outcome, unread}
use Rattle.call_meaning.specs.FailureWords.{most_bytes}
use Rattle.call_meaning.specs.Linking.{BlockMeans, FileAndText, HoldsText, LinkingMeans, SourceMeans, TextMeans, ConstraintsIn, fault_of, LibraryIn, NetlistIn, ParasiticsIn}
use Rattle.command_line.specs.declared.words.BlockFiles.{BlockFiles}
use Rattle.call_meaning.specs.declared.refusal.TextRefusal.{TextRefusal}
use Rattle.call_meaning.specs.declared.refusal.Unlinked.{Unlinked}
use Rattle.call_meaning.specs.declared.refusal.Unlinked.TheVariants as unlinked
use Rattle.call_meaning.specs.declared.refusal.Refusal.TheVariants.{Linking}
use Rattle.call_meaning.specs.declared.refusal.PassedLimit.{PassedLimit}
use Rattle.call_meaning.proofs.Agreeing.{LeavesOne, agree_as, one_of_file_at}
use Rattle.call_meaning.proofs.Blocks.{text_leads}
use Rattle.call_meaning.proofs.Netlists.{same_limit, netlist_is_one}

-- refusals of linking that are one fault are one
same_refusal : (v w : Unlinked) → fault_of v ≡ fault_of w → v ≡ w
same_refusal (unlinked.Refused a) (unlinked.Refused b) e = let is : a ≡ b = cc in ap (λ (r : LinkRefusal). unlinked.Refused r) is
same_refusal (unlinked.Refused a) (unlinked.Beyond limit) e = absurd cc
same_refusal (unlinked.Beyond limit) (unlinked.Refused b) e = absurd cc
same_refusal (unlinked.Beyond limit) (unlinked.Beyond other) e =
    let what : limit.what ≡ other.what = cc in
    let name : limit.name ≡ other.name = cc in
    let value : limit.value ≡ other.value = cc in
    ap (λ (l : PassedLimit LimitKind ℕ). unlinked.Beyond l) (same_limit limit other what name value)

-- linking has one outcome: its first fault, or else the one design
one_of_linking : (x : Inputs) (Leads : Parts → Outcome → Type 0) → ((d : Parts) → IsSound d → LeavesOne (Leads d)) → LeavesOne (λ o. LinkingMeans x (λ d. Leads d o) o)
one_of_linking x Leads one o p (inl a) (inl b) = agree_as o p _ _ a.2 b.2 (ap Linking (same_refusal a.0 b.0 (fault_is_one x (fault_of a.0) (fault_of b.0) a.1 b.1)))
one_of_linking x Leads one o p (inl a) (inr b) = absurd (linked_is_accepted x (fault_of a.0) b.0 a.1 b.1)
one_of_linking x Leads one o p (inr a) (inl b) = absurd (linked_is_accepted x (fault_of b.0) a.0 b.1 a.1)
one_of_linking x Leads one o p (inr a) (inr b) = one a.0 a.2 o p a.3 (subst (λ d. Leads d p) (design_is_one x b.0 a.0 b.1 a.1) b.3)

-- a file and its text, where what the values lead to leaves one outcome for each value that the file holds
one_of_text : {V : Type 0} (file : Text) (content : Contents) (Meant : Text → Result V TextRefusal → Type 0) (Leads : V → Outcome → Type 0)
    → ((bytes : Text) (r s : Result V TextRefusal) → Meant bytes r → Meant bytes s → r ≡ s) → IsSome (content file)
    → ((v : V) → HoldsText file content Meant v → LeavesOne (Leads v)) → LeavesOne (λ o. FileAndText file content Meant (λ v. Leads v o) o)
one_of_text {V} file content Meant Leads single known one =
    one_of_file_at file content (λ bytes o. TextMeans file bytes Meant (λ v. Leads v o) o) known
    (λ bytes held fits o p a b. go bytes held fits a.result a.meant o p a.leads
    (subst (λ r. SourceMeans file r (λ v. Leads v p) p) (single bytes b.result a.result b.meant a.meant) b.leads))
  where
    go : (bytes : Text) → IfSome (content file) (λ whole. bytes ≡ whole) → length bytes ≤ most_bytes → (r : Result V TextRefusal) → Meant bytes r
        → LeavesOne (λ o. SourceMeans file r (λ v. Leads v o) o)
    go bytes held fits (Ok v) e = one v (record { bytes = bytes; held = held; fits = fits; means = e })
    go bytes held fits (Err why) e = λ o p a b. agree_as o p _ _ a b refl

-- a text that means a result means no other
same_result : {V : Type 0} (x r s : Result V TextRefusal) → x ≡ r → x ≡ s → r ≡ s
same_result x r s a b = sym a ∙ b

pub one_of_block : (files : BlockFiles) (content : Contents) (Leads : Parts → Outcome → Type 0)
    → ((f : Text) → BlockMeans files content (λ d. Leads d (unread f)) (unread f) → IsSome (content f))
    → ((d : Parts) → IsSound d → LeavesOne (Leads d)) → LeavesOne (λ o. BlockMeans files content (λ d. Leads d o) o)
one_of_block files content Leads known one =
    one_of_text files.lib content LibraryIn (λ library o.
    FileAndText files.netlist content NetlistIn (λ netlist.
    FileAndText files.spef content ParasiticsIn (λ parasitics.
    FileAndText files.sdc content (ConstraintsIn library netlist) (λ constraints.
    LinkingMeans (record { library = library; netlist = netlist; parasitics = parasitics; constraints = constraints }) (λ d. Leads d o) o) o) o) o)
    (λ bytes. same_result _) (known files.lib (inl refl)) (λ library a.
    one_of_text files.netlist content NetlistIn (λ netlist o.
    FileAndText files.spef content ParasiticsIn (λ parasitics.
    FileAndText files.sdc content (ConstraintsIn library netlist) (λ constraints.
    LinkingMeans (record { library = library; netlist = netlist; parasitics = parasitics; constraints = constraints }) (λ d. Leads d o) o) o) o)
    netlist_is_one (known files.netlist (text_leads files.lib content LibraryIn _ (unread files.netlist) library a (inl refl))) (λ netlist b.
    one_of_text files.spef content ParasiticsIn (λ parasitics o.
    FileAndText files.sdc content (ConstraintsIn library netlist) (λ constraints.
    LinkingMeans (record { library = library; netlist = netlist; parasitics = parasitics; constraints = constraints }) (λ d. Leads d o) o) o)
    (λ bytes. same_result _) (known files.spef (text_leads files.lib content LibraryIn _ (unread files.spef) library a
    (text_leads files.netlist content NetlistIn _ (unread files.spef) netlist b (inl refl)))) (λ parasitics k.
    one_of_text files.sdc content (ConstraintsIn library netlist) (λ constraints o.
    LinkingMeans (record { library = library; netlist = netlist; parasitics = parasitics; constraints = constraints }) (λ d. Leads d o) o)
    (λ bytes. same_result _) (known files.sdc (text_leads files.lib content LibraryIn _ (unread files.sdc) library a
    (text_leads files.netlist content NetlistIn _ (unread files.sdc) netlist b
    (text_leads files.spef content ParasiticsIn _ (unread files.sdc) parasitics k (inl refl))))) (λ constraints h.
    one_of_linking _ Leads one))))
