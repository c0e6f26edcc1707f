-- What the proofs of the functions cite, under one name.
pub use Prim.Native.Nat.{ℕ, ◌+◌, ◌-◌, ◌*◌, ◌<◌}
pub use mathlib.Core.Path.{◌≡◌, refl, sym, ap, ◌∙◌}
pub use native.Mathlib.Omega.{arith}
pub use borrow.Author.Tests.{lt-leb, le-leb}
pub use Rattle.manifest.specs.Layout.{entries}
pub use Rattle.state.specs.Stored.{model_of}
pub use Rattle.monitor.specs.Installing.{append_all}
pub use Rattle.monitor.specs.InstallLaws.{section-next, section-ends, sections-found, never-malformed}
pub use Rattle.monitor.specs.RangeLaws.{member-low, number-low}
pub use Rattle.monitor.specs.StepLaws.{refused-stays, query-stays, grant-steps, write-steps, start-steps}
pub use Rattle.monitor.specs.StepLaws.{installs-good, install-steps, stop-steps, loans-steps, uninstall-steps}
pub use Rattle.monitor.specs.StepLaws.{lend-left, lend-stays, running-kept}
pub use Rattle.monitor.specs.UnaskedLaws.{apps-unasked, grants-unasked, runs-unasked, withdraw-unasked, ask-unasked}
pub use Rattle.monitor.proofs.Sizes.{kept, numbers-narrow}
pub use Rattle.monitor.proofs.Receivers.{narrow-same, narrow-none}
