use Rattle.adya_laws.proofs.SelectedIsInstalled.{selected_installed}
use Rattle.adya_laws.proofs.selected_is_installed.Goals as goal

pub returns : goal.returns
returns c h e k p checked occurs committed = selected_installed h checked e k p occurs committed
