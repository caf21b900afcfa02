mod ColumnLaws
mod FaultLaws
mod FileSteps
mod HeaderBack
mod HeaderSteps
mod KeyLaws
mod LineSteps
mod ManifestSteps
mod MetadataSteps
mod PlaceSteps
mod PropertyLaws
mod ReadBack
mod RecordLaws
mod RepeatSteps
mod RisingIds
pub mod RecordSteps
mod SetSteps
mod TextBack
mod TextLaws
mod ValueSteps
pub mod PlainLaws
