-- Words of both ways, for each way in which Miller numbers may be given: by `solve`, by `link`, by both and by neither.
use Rattle.std.proofs.Common.{refl, List, ◌∷◌, [], codes, Some, None}
use Rattle.xt_model.specs.Miller.{MillerNumbers}
use Rattle.report_kind.specs.declared.kind.ReportKind.TheVariants.{All, Checks}
use Rattle.command_line.specs.Words.{Text}
use Rattle.command_line.specs.declared.values.Engine.TheVariants.{Rounds, Marks}
use Rattle.command_line.specs.declared.words.BlockFiles.{BlockFiles}
use Rattle.link_laws.specs.Laws.{TwoWays}

abbrev files : BlockFiles
files = record { lib = codes "l"; netlist = codes "n"; spef = codes "p"; sdc = codes "s" }

abbrev block : List Text → List Text
block options = codes "l" ∷ codes "n" ∷ codes "p" ∷ codes "s" ∷ options

abbrev wide : MillerNumbers
wide = record { low = 0; mid = 4; high = 12 }

abbrev quiet : MillerNumbers
quiet = record { low = 4; mid = 4; high = 4 }

by_solve : TwoWays
by_solve = record {
  report = codes "report" ∷ block (codes "--miller" ∷ codes "0,4,12" ∷ codes "--workers" ∷ codes "4" ∷ []);
  link = codes "link" ∷ block [];
  solve = codes "solve" ∷ codes "t" ∷ codes "--miller" ∷ codes "0,4,12" ∷ codes "--engine" ∷ codes "marks" ∷ [];
  reporting = record { files = files; workers = 4; kind = All; miller = Some wide; engine = Rounds };
  linking = record { files = files; miller = None };
  solving = record { file = codes "t"; workers = 1; kind = All; miller = Some wide; engine = Marks };
  reports = refl;
  links = refl;
  solves = refl;
  files = refl;
  kind = refl;
  miller = refl;
}

by_link : TwoWays
by_link = record {
  report = codes "report" ∷ block (codes "--miller=0,4,12" ∷ codes "--kind=checks" ∷ []);
  link = codes "link" ∷ block (codes "--miller=0,4,12" ∷ []);
  solve = codes "solve" ∷ codes "t" ∷ codes "--kind=checks" ∷ [];
  reporting = record { files = files; workers = 1; kind = Checks; miller = Some wide; engine = Rounds };
  linking = record { files = files; miller = Some wide };
  solving = record { file = codes "t"; workers = 1; kind = Checks; miller = None; engine = Rounds };
  reports = refl;
  links = refl;
  solves = refl;
  files = refl;
  kind = refl;
  miller = refl;
}

by_both : TwoWays
by_both = record {
  report = codes "report" ∷ block (codes "--miller" ∷ codes "4,4,4" ∷ []);
  link = codes "link" ∷ block (codes "--miller" ∷ codes "0,4,12" ∷ []);
  solve = codes "solve" ∷ codes "t" ∷ codes "--miller" ∷ codes "4,4,4" ∷ [];
  reporting = record { files = files; workers = 1; kind = All; miller = Some quiet; engine = Rounds };
  linking = record { files = files; miller = Some wide };
  solving = record { file = codes "t"; workers = 1; kind = All; miller = Some quiet; engine = Rounds };
  reports = refl;
  links = refl;
  solves = refl;
  files = refl;
  kind = refl;
  miller = refl;
}

by_neither : TwoWays
by_neither = record {
  report = codes "report" ∷ block [];
  link = codes "link" ∷ block [];
  solve = codes "solve" ∷ codes "t" ∷ [];
  reporting = record { files = files; workers = 1; kind = All; miller = None; engine = Rounds };
  linking = record { files = files; miller = None };
  solving = record { file = codes "t"; workers = 1; kind = All; miller = None; engine = Rounds };
  reports = refl;
  links = refl;
  solves = refl;
  files = refl;
  kind = refl;
  miller = refl;
}
