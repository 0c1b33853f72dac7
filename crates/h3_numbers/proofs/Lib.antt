mod DigitLaws
mod FractionLaws
mod PowerLaws
mod ShortLaws
mod TextLaws
mod TotalLaws
mod ZeroLaws
