-- Outcomes that agree, and files that hold one content where it is known.
use Rattle.std.proofs.Common.{◌≡◌, ◌<◌, ◌≤◌, length, Option, Some, None, IfSome, refl, sym, ◌∙◌, subst, inl, inr, arith, true≢false}
use Rattle.std.specs.Prelude.{IsSome}
use Rattle.command_line.specs.Words.{Text}
use Rattle.call_meaning.specs.Outcome.{Contents, Outcome, prints, refuses, unread, FileMeans}
use Rattle.call_meaning.specs.FailureWords.{most_bytes}

-- both print one text, or both refuse for one cause; that a file cannot be read agrees with any outcome
abbrev pub Agree : Outcome → Outcome → Type 0
Agree (prints a) (prints b) = a ≡ b
Agree (prints a) (refuses b) = ⊥
Agree (prints a) (unread f) = Unit {0}
Agree (refuses a) (prints b) = ⊥
Agree (refuses a) (refuses b) = a ≡ b
Agree (refuses a) (unread f) = Unit {0}
Agree (unread f) o = Unit {0}

-- all outcomes that are meant agree
abbrev pub LeavesOne : (Outcome → Type 0) → Type 0
LeavesOne Meant = (o p : Outcome) → Meant o → Meant p → Agree o p

pub unread_agrees : (o : Outcome) (f : Text) → Agree o (unread f)
unread_agrees (prints a) f = tt
unread_agrees (refuses a) f = tt
unread_agrees (unread g) f = tt

pub agree_as : (o p x y : Outcome) → o ≡ x → p ≡ y → Agree x y → Agree o p
agree_as o p x y e f a = subst (λ z. Agree z p) (sym e) (subst (Agree x) (sym f) a)

-- where its content is known, a file holds no other bytes
one_content : (c : Option Text) (a b : Text) → IsSome c → IfSome c (λ whole. a ≡ whole) → IfSome c (λ whole. b ≡ whole) → b ≡ a
one_content None a b known is_a is_b = absurd (true≢false (sym known))
one_content (Some whole) a b known is_a is_b = is_b ∙ sym is_a

-- and none is too long and is not
fits_or_not : (c : Option Text) (bytes : Text) → IsSome c → IfSome c (λ whole. bytes ≡ whole) → length bytes ≤ most_bytes → IfSome c (λ whole. most_bytes < length whole) → ⊥
fits_or_not None bytes known is fits long = absurd (true≢false (sym known))
fits_or_not (Some whole) bytes known is fits long =
    let short : length whole ≤ most_bytes = subst (λ b. length b ≤ most_bytes) is fits in
    absurd (omega (arith, short, long))

pub one_of_file_at : (file : Text) (content : Contents) (Leads : Text → Outcome → Type 0) → IsSome (content file)
    → ((bytes : Text) → IfSome (content file) (λ whole. bytes ≡ whole) → length bytes ≤ most_bytes → LeavesOne (Leads bytes))
    → LeavesOne (λ o. FileMeans file content (λ bytes. Leads bytes o) o)
one_of_file_at file content Leads known one o p (inl e) b = agree_as o p (unread file) p e refl tt
one_of_file_at file content Leads known one o p (inr a) (inl e) = agree_as o p o (unread file) refl e (unread_agrees o file)
one_of_file_at file content Leads known one o p (inr (inl a)) (inr (inl b)) = agree_as o p _ _ a.1 b.1 refl
one_of_file_at file content Leads known one o p (inr (inl a)) (inr (inr b)) = absurd (fits_or_not (content file) b.0 known b.1 b.2 a.0)
one_of_file_at file content Leads known one o p (inr (inr a)) (inr (inl b)) = absurd (fits_or_not (content file) a.0 known a.1 a.2 b.0)
one_of_file_at file content Leads known one o p (inr (inr a)) (inr (inr b)) =
    one a.0 a.1 a.2 o p a.3 (subst (λ bytes. Leads bytes p) (one_content (content file) a.0 b.0 known a.1 b.1) b.3)

pub one_of_file : (file : Text) (content : Contents) (Leads : Text → Outcome → Type 0) → IsSome (content file) → ((bytes : Text) → LeavesOne (Leads bytes))
    → LeavesOne (λ o. FileMeans file content (λ bytes. Leads bytes o) o)
one_of_file file content Leads known one = one_of_file_at file content Leads known (λ bytes held fits. one bytes)
