use Rattle.std.proofs.Common.{◌≡◌, Option, Some, None, false, refl, arith}
use Rattle.std.specs.Prelude.{is_some, IfNone}
use Rattle.xt_io.proofs.directory_files.DirectoryFilesFiles.open.Goals as goal

-- what is said of none
of_none : {A : Type 0} (o : Option A) (X : Type 0) → is_some o ≡ false → IfNone o X → X
of_none None X e x = x
of_none (Some a) X e x = absurd cc

pub returns-clause-directory : goal.returns-clause-directory
returns-clause-directory g c = rw (← c.self.view_is) refl

pub returns-then-is_none-clause-directory : goal.returns-then-is_none-clause-directory
returns-then-is_none-clause-directory g c = rw (← c.self.view_is) refl

pub returns-clause-kept : goal.returns-clause-kept
returns-clause-kept g c = rw (← c.self.view_is) refl

pub returns-clause-counts : goal.returns-clause-counts
returns-clause-counts g c = rw (← c.self.view_is) (omega arith)

pub returns-then-is_none-clause-raised : goal.returns-then-is_none-clause-raised
returns-then-is_none-clause-raised g c = rw (← c.self.view_is) c.saturating_add-self-inside.ensures

pub returns-then-is_none-clause-cause : goal.returns-then-is_none-clause-cause
returns-then-is_none-clause-cause g c = rw (← c.self.view_is) (of_none c.open_file.result _ c.if-is_none.ensures c.open_file.ensures.cause)
