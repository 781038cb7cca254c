-- The windows that a hub was given, as contracts see them.
use Rattle.std.specs.Prelude.{List, [], ◌∷◌, reverse}
use Rattle.bc_windows.specs.Windows.{Window}
use Rattle.hub_core.specs.declared.windows.GivenWindows.{GivenWindows}
use Rattle.hub_core.specs.declared.windows.GivenWindows.TheOpen.{GivenWindows-F}
use Rattle.hub_core.specs.declared.windows.GivenWindows.TheFolds.{fold-GivenWindows}

-- one window more than those before it, whose list stands in their place; a history has the newest
-- entry first: the code has the oldest first
abbrev pub with_former : GivenWindows-F (List Window) → List Window
with_former GivenWindows-F.None = []
with_former (GivenWindows-F.Given end begun former) =
    record { end = end; begun = reverse begun.value } ∷ former.value

-- the newest first
abbrev pub windows_of : GivenWindows → List Window
windows_of = fold-GivenWindows (List Window) with_former
