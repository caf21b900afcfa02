-- Which rows a filter lets through, and what a row is sorted by.
pub mod Filters
pub mod Orders
pub mod SubjectValues
