-- A yes means serializable.
use Rattle.std.proofs.Common.{refl}
use Rattle.adya_audit.specs.Meaning.Verdicts.{Yes}
use Rattle.adya_audit.specs.Laws.Texts.{YesIffTextsAccepted, AcceptedTextsAreSerializable}
use Rattle.headline.specs.Headline.{YesMeansSerializable}

pub means_serializable : YesIffTextsAccepted → AcceptedTextsAreSerializable → YesMeansSerializable
means_serializable exact serial history certificate said = serial history certificate ((exact history certificate Yes said).0 refl)
