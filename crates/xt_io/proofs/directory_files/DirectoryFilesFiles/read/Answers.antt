use Rattle.std.proofs.Common.{◌≡◌, ℕ, true, false, List, Option, Result, Ok, Err, Some, IfOk, OnErr, refl, sym, ap, ◌∙◌, arith}
use Rattle.std.specs.Prelude.{OnOk}
use Rattle.std.specs.Result.{is_err}
use Rattle.xt_io.specs.Host.{IsLeft}
use Rattle.xt_io.specs.Outside.{Place}
use Rattle.xt_io.proofs.Left.{left_after}
use Rattle.xt_io.proofs.directory_files.DirectoryFilesFiles.read.Goals as goal

-- ---- what is said of one kind of results

no_error : {E : Type 0} (r : Result ℕ E) (X : Type 0) → is_err r ≡ false → OnErr r X
no_error (Ok n) X e = tt
no_error (Err x) X e = absurd cc

no_count : {E : Type 0} (r : Result ℕ E) (P : ℕ → Type 0) → is_err r ≡ true → IfOk r P
no_count (Ok n) P e = absurd cc
no_count (Err x) P e = tt

each_error : {E : Type 0} (r : Result ℕ E) (X Y : Type 0) → (X → Y) → OnErr r X → OnErr r Y
each_error (Ok n) X Y h x = tt
each_error (Err e) X Y h x = h x

each_count : {E : Type 0} (r : Result ℕ E) (P Q : ℕ → Type 0) → ((n : ℕ) → P n → Q n) → IfOk r P → IfOk r Q
each_count (Ok n) P Q h p = h n p
each_count (Err e) P Q h p = tt

any_error : {E : Type 0} (r : Result ℕ E) (X : Type 0) → X → OnErr r X
any_error (Ok n) X x = tt
any_error (Err e) X x = x

any_count : {E : Type 0} (r : Result ℕ E) (X : Type 0) → X → OnOk r X
any_count (Ok n) X x = x
any_count (Err e) X x = tt

same_place : (name : List ℕ) (a b : ℕ) → a ≡ b → ◌≡◌ {A = Option Place} (Some (record { name = name; read = a })) (Some (record { name = name; read = b }))
same_place name a b e = ap (λ (k : ℕ). Some (record { name = name; read = k })) e

-- ---- the answers

pub invariant_of-self-else-is_err : goal.invariant_of-self-else-is_err
invariant_of-self-else-is_err g c =
    let file : c.self.inside.file ≡ Some c.unwrap-file.result = sym c.take.ensures.value ∙ c.unwrap-file.ensures in
    let left : IsLeft (g.D.Directory.content c.self.inside.directory c.unwrap-file.result.name.bytes)
    c.unwrap-file.result.read (g.D.Stream.Read.remaining c.unwrap-file.result.stream) = rw file at c.self.invariant in
    let within = each_count c.read-answer.result _ _ (λ n most. omega (arith, most, c.read-answer.ensures.len)) c.read-answer.ensures.count in
    rw c.read-answer.ensures.name (left_after _ _ _ _ _ _ _ left c.read-answer.ensures.bytes within
    c.read-answer.ensures.read c.read-answer.ensures.failed)

pub invariant_of-self : goal.invariant_of-self
invariant_of-self g c =
    let file : c.self.inside.file ≡ Some c.unwrap-file.result = sym c.take.ensures.value ∙ c.unwrap-file.ensures in
    let left : IsLeft (g.D.Directory.content c.self.inside.directory c.unwrap-file.result.name.bytes)
    c.unwrap-file.result.read (g.D.Stream.Read.remaining c.unwrap-file.result.stream) = rw file at c.self.invariant in
    let within = each_count c.read-answer.result _ _ (λ n most. omega (arith, most, c.read-answer.ensures.len)) c.read-answer.ensures.count in
    rw c.read-answer.ensures.name (left_after _ _ _ _ _ _ _ left c.read-answer.ensures.bytes within
    c.read-answer.ensures.read c.read-answer.ensures.failed)

pub returns-then-is_err-clause-count : goal.returns-then-is_err-clause-count
returns-then-is_err-clause-count g c = c.read-answer.ensures.count

pub returns-then-is_err-clause-directory : goal.returns-then-is_err-clause-directory
returns-then-is_err-clause-directory g c = rw (← c.self.view_is) refl

pub returns-else-is_err-clause-count : goal.returns-else-is_err-clause-count
returns-else-is_err-clause-count g c = c.read-answer.ensures.count

pub returns-else-is_err-clause-directory : goal.returns-else-is_err-clause-directory
returns-else-is_err-clause-directory g c = rw (← c.self.view_is) refl

pub returns-else-is_err-clause-cause : goal.returns-else-is_err-clause-cause
returns-else-is_err-clause-cause g c = no_error c.read-answer.result _ (sym c.if-is_err.ensures.value)

pub returns-else-is_err-clause-failed : goal.returns-else-is_err-clause-failed
returns-else-is_err-clause-failed g c = no_error c.read-answer.result _ (sym c.if-is_err.ensures.value)

pub returns-else-is_err-clause-raised : goal.returns-else-is_err-clause-raised
returns-else-is_err-clause-raised g c = no_error c.read-answer.result _ (sym c.if-is_err.ensures.value)

pub returns-else-is_err-clause-stays : goal.returns-else-is_err-clause-stays
returns-else-is_err-clause-stays g c = no_error c.read-answer.result _ (sym c.if-is_err.ensures.value)

pub returns-then-is_err-clause-moved : goal.returns-then-is_err-clause-moved
returns-then-is_err-clause-moved g c = no_count c.read-answer.result _ (sym c.if-is_err.ensures.value)

pub returns-then-is_err-clause-next : goal.returns-then-is_err-clause-next
returns-then-is_err-clause-next g c = no_count c.read-answer.result _ (sym c.if-is_err.ensures.value)

pub returns-then-is_err-clause-raised : goal.returns-then-is_err-clause-raised
returns-then-is_err-clause-raised g c = any_error c.read-answer.result _ (rw (← c.self.view_is) c.saturating_add-self-inside.ensures)

pub returns-then-is_err-clause-stays : goal.returns-then-is_err-clause-stays
returns-then-is_err-clause-stays g c =
    let file : c.self.inside.file ≡ Some c.unwrap-file.result = sym c.take.ensures.value ∙ c.unwrap-file.ensures in
    each_error c.read-answer.result _ _ (λ same. rw (← c.self.view_is, file, c.read-answer.ensures.name) (same_place c.unwrap-file.result.name.bytes _ _ same)) c.read-answer.ensures.failed

pub returns-then-is_err-clause-cause : goal.returns-then-is_err-clause-cause
returns-then-is_err-clause-cause g c =
    let file : c.self.inside.file ≡ Some c.unwrap-file.result = sym c.take.ensures.value ∙ c.unwrap-file.ensures in
    each_error c.read-answer.result _ _ (λ may. rw (← c.self.view_is, file) may) c.read-answer.ensures.cause

pub returns-else-is_err-clause-counts : goal.returns-else-is_err-clause-counts
returns-else-is_err-clause-counts g c = rw (← c.self.view_is) (omega arith)

pub returns-else-is_err-clause-kept : goal.returns-else-is_err-clause-kept
returns-else-is_err-clause-kept g c = any_count c.read-answer.result _ (rw (← c.self.view_is) refl)

pub returns-else-is_err-clause-moved : goal.returns-else-is_err-clause-moved
returns-else-is_err-clause-moved g c =
    let file : c.self.inside.file ≡ Some c.unwrap-file.result = sym c.take.ensures.value ∙ c.unwrap-file.ensures in
    each_count c.read-answer.result _ _ (λ n more. rw (← c.self.view_is, file, c.read-answer.ensures.name) (same_place c.unwrap-file.result.name.bytes _ _ more)) c.read-answer.ensures.read
